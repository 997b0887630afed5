-- One file with number 0 everywhere lists as one image did (document 02, note 6): each line, and the settling steps.
use Rattle.std.proofs.Common.{◌≡◌, ℕ, List, ◌∷◌, sym, ap, ◌∙◌}
use Rattle.reads.specs.Outcome.{Outcome, value, and_then}
use Rattle.reads.proofs.OneFile.{Widened}
use Rattle.records.proofs.OneFile.{Lent, as_file, run_before, one_file_decodes}
use Rattle.listing.specs.DecodeListing.{decode_events, decode_listing}
use Rattle.listing.specs.PlainListing.{info_line, version_and_flags, plain_events, plain_listing}
use Rattle.listing.specs.declared.line.Line.{Line}
use Rattle.listing.proofs.DecodedListing.{listing_runs, events_run}

-- Line I, and the other lines behind it.
abbrev behind_info : Lent → Outcome (List Line) → Outcome (List Line)
behind_info b o = and_then o (λ lines. value (info_line (version_and_flags b.info) b.setting ∷ lines))

-- The listing as it was: what its definition made of the image.
abbrev pub listing_before : Lent → Outcome (List Line)
listing_before b = behind_info b (run_before b (decode_listing b.sections))

module _ (b : Lent) (segments binds : List ℕ) (n : ℕ) (s : Widened 4 b.segments segments) (w : Widened 3 b.binds binds) where
  pub one_file_lists : plain_listing (as_file b segments binds n) ≡ listing_before b
  one_file_lists =
      sym (listing_runs (as_file b segments binds n)) ∙ ap (behind_info b) (one_file_decodes b segments binds n s w (decode_listing b.sections))

  pub one_file_settles : plain_events (as_file b segments binds n) ≡ run_before b (decode_events b.sections)
  one_file_settles = sym (events_run (as_file b segments binds n)) ∙ one_file_decodes b segments binds n s w (decode_events b.sections)
