-- When an old page is still good (document 02, note 13): the lines are the same, and the ranges; and so are the bytes of the lines' texts.
use Prim.Native.Nat.{ℕ}
use mathlib.Core.Path.{◌≡◌, sym, ap, ◌∙◌, subst}
use mathlib.Core.List.{List, ◌∷◌}
use Rattle.reads.specs.Outcome.{Outcome, value, and_then}
use Rattle.reads.proofs.Outcomes.{then_came}
use Rattle.pointers.specs.Tables.{Tables}
use Rattle.pointers.specs.declared.setting.Setting.{Setting}
use Rattle.records.specs.Asks.{Each}
use Rattle.records.specs.Decode.{run}
use Rattle.listing.specs.DecodeListing.{decode_listing}
use Rattle.listing.specs.PlainListing.{version_and_flags, info_line, plain_listing}
use Rattle.listing.specs.declared.line.Line.{Line}
use Rattle.listing.proofs.DecodedListing.{listing_runs}
use Rattle.ranges.specs.Runs.{merged}
use Rattle.used.specs.Used.{used, file_lengths}
use Rattle.used.specs.UsedBy.{used_by, ranges_used}
use Rattle.used.specs.StillGood.{StillGood}
use Rattle.used.proofs.AnswersAlike.{Alike}
use Rattle.used.proofs.StillGoods.{merged_parts, still_good}
use Rattle.used.proofs.SameLines.{SameLine, listing_gives}

module _ (t u : Tables) (good : StillGood t u (used_by t)) where
  decoded : StillGood t u (used t (decode_listing t.sections))
  unfolding used_by
  decoded = good

  alike : Alike (run t (decode_listing t.sections)) (run u (decode_listing t.sections)) (used t (decode_listing t.sections)) (used u (decode_listing t.sections))
  alike = still_good t u (decode_listing t.sections) decoded

  -- Line I is made of the image info and the setting; the others of what the definition gives.
  abbrev listed : List ℕ → Setting → Outcome (List Line) → Outcome (List Line)
  listed info setting o = and_then o (λ lines. value (info_line (version_and_flags info) setting ∷ lines))

  pub same_lines : plain_listing t ≡ plain_listing u
  same_lines =
      let same = good.tables in
      sym (listing_runs t)
      ∙ ap (listed t.info t.setting) alike.outcome
      ∙ ap (λ (ws : List ℕ). listed t.info t.setting (run u (decode_listing ws))) same.sections
      ∙ ap (λ (info : List ℕ). listed info t.setting (run u (decode_listing u.sections))) same.info
      ∙ ap (λ (setting : Setting). listed u.info setting (run u (decode_listing u.sections))) same.setting
      ∙ listing_runs u

  pub same_ranges : ranges_used t ≡ ranges_used u
  unfolding ranges_used used_by
  same_ranges =
      let same = good.tables in
      ap (λ (ns : List ℕ). merged ns (used t (decode_listing t.sections))) same.lengths
      ∙ ap (merged (file_lengths u.files)) alike.ranges
      ∙ ap (λ (ws : List ℕ). merged (file_lengths u.files) (used u (decode_listing ws))) same.sections

  -- Whatever lines the listing has, their texts are the same.
  pub same_texts : (lines : List Line) → plain_listing t ≡ value lines → Each (SameLine t u.files) lines
  same_texts lines e =
      let came = then_came (run t (decode_listing t.sections)) _ lines (listing_runs t ∙ e) in
      let parts = merged_parts t.files u.files good.tables.lengths (used t (decode_listing t.sections)) decoded.bytes in
      let each = (listing_gives t u.files t.sections).holds parts came.0 came.1 in
      let is : info_line (version_and_flags t.info) t.setting ∷ came.0 ≡ lines = cc in
      subst (Each (SameLine t u.files)) is (tt, each)
