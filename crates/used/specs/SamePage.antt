-- The same page (document 02, note 13): equal lines, equal text, plain and under any frames, and equal ranges.
use Rattle.std.specs.Prelude.{◌≡◌, Option}
use Rattle.pointers.specs.Tables.{Tables}
use Rattle.frames.specs.declared.frames.Frames.{Frames}
use Rattle.listing.specs.PlainListing.{plain_listing}
use Rattle.marking.specs.Marked.{marked_listing}
use Rattle.printing.specs.BundleText.{listing_text}
use Rattle.used.specs.UsedBy.{ranges_used}

pub record SamePage (t u : Tables) : Type 0 where
  pub lines : plain_listing t ≡ plain_listing u
  pub text : listing_text t.files (plain_listing t) ≡ listing_text u.files (plain_listing u)
  pub marked : (w : Option Frames) → marked_listing w t ≡ marked_listing w u
  pub marked_text : (w : Option Frames) → listing_text t.files (marked_listing w t) ≡ listing_text u.files (marked_listing w u)
  pub ranges : ranges_used t ≡ ranges_used u
