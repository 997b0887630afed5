-- Over what opening accepted, where the slots of rebases ascend, the plain listing is the same however rebases are found.
use Rattle.std.proofs.Common.{◌≡◌, true, List, ◌∷◌, sym, ap, ◌∙◌}
use Rattle.reads.specs.Outcome.{Outcome, value, and_then}
use Rattle.reads.specs.declared.text.Reading.{Reading}
use Rattle.pointers.specs.Open.{Opened}
use Rattle.pointers.specs.Sorted.{ascending}
use Rattle.pointers.specs.Tables.{Tables, under}
use Rattle.pointers.specs.declared.setting.Setting.{Setting}
use Rattle.records.specs.Decode.{run}
use Rattle.records.proofs.Lookups.{found_alike}
use Rattle.listing.specs.DecodeListing.{decode_listing}
use Rattle.listing.specs.PlainListing.{version_and_flags, plain_listing}
use Rattle.listing.specs.declared.line.Line.{Line}
use Rattle.listing.specs.declared.line.Line.TheVariants as line
use Rattle.listing.proofs.DecodedListing.{listing_runs}

pub listed_alike : (t : Tables) → Opened t → ascending t.rebases ≡ true → (u v : Setting) → u.reading ≡ v.reading
    → plain_listing (under u t) ≡ plain_listing (under v t)
listed_alike t o e u v same =
    let rest : Line → Outcome (List Line) → Outcome (List Line) = λ first lines. and_then lines (λ ls. value (first ∷ ls)) in
    let first : Reading → Line = λ r. line.Info (record { info = version_and_flags t.info; reading = r }) in
    sym (listing_runs (under u t))
    ∙ ap (rest (first u.reading)) (found_alike t o e u v same (decode_listing t.sections))
    ∙ ap (λ (r : Reading). rest (first r) (run (under v t) (decode_listing t.sections))) same
    ∙ listing_runs (under v t)
