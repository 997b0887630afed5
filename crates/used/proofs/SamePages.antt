-- When an old page is still good (document 02, note 13): the listing is the same, its text, and the ranges.
use Prim.Native.Nat.{ℕ}
use mathlib.Core.Path.{◌≡◌, refl, ap, ◌∙◌, subst}
use mathlib.Core.List.{List, [], ◌∷◌, flat_map}
use lib.ListN.{length}
use Rattle.reads.specs.Outcome.{Outcome, value, absent, refused, and_then}
use Rattle.reads.proofs.Outcomes.{then_came}
use Rattle.reads.specs.Files.{file_of}
use Rattle.reads.specs.declared.text.Text.{Text}
use Rattle.pointers.specs.Tables.{Tables}
use Rattle.records.specs.Asks.{Each}
use Rattle.records.specs.declared.row.Row.{Row}
use Rattle.records.specs.declared.row.Row.TheVariants as row
use Rattle.frames.specs.declared.frames.Frames.{Frames}
use Rattle.frames.specs.declared.frames.Mark.{Mark}
use Rattle.frames.specs.Marks.{met_all}
use Rattle.listing.specs.PlainListing.{plain_listing}
use Rattle.listing.specs.declared.line.Line.{Line}
use Rattle.listing.specs.declared.line.Line.TheVariants as line
use Rattle.marking.specs.Marked.{starts_in, marked, marked_lines, marked_listing}
use Rattle.printing.specs.BundleText.{listing_text}
use Rattle.printing.specs.LineText.{part_field, text_field, text_fields, named_field, class_text, ro_text, protocol_text, category_text, method_text, ivar_text, property_text, name_text, row_text, fields_text, line_text}
use Rattle.used.specs.SamePage.{SamePage}
use Rattle.used.specs.StillGood.{StillGood}
use Rattle.used.specs.UsedBy.{used_by}
use Rattle.used.proofs.SameTexts.{SameText, SameRow}
use Rattle.used.proofs.SameLines.{each_map, SameNamed, SameLine}
use Rattle.used.proofs.SameListings.{same_lines, same_ranges, same_texts}
use Rattle.used.proofs.StillGoods.{lengths_same}
use Rattle.std.specs.Prelude.{Option, Some, None}

module _ (t : Tables) (others : List (List ℕ)) where
  -- A mark changes no text.
  marked_same : (w : Option Frames) (x : Line) → SameLine t others x → SameLine t others (marked w x)
  unfolding marked
  marked_same w (line.Info i) h = h
  marked_same w (line.Class l) h = h
  marked_same w (line.Ro r) h = h
  marked_same w (line.Protocol p) h = h
  marked_same w (line.Category l) h = h
  marked_same w (line.Row l) h = h
  marked_same w (line.Name l) h = h
  marked_same w (line.End l) h = h

  lines_marked_same : (w : Option Frames) (xs : List Line) → Each (SameLine t others) xs → Each (SameLine t others) (marked_lines w xs)
  unfolding marked_lines
  lines_marked_same w xs h = each_map (SameLine t others) (SameLine t others) (marked (met_all w (starts_in xs))) (marked_same (met_all w (starts_in xs))) xs h

-- Lines whose texts are the same in both are printed alike.
module _ (t : Tables) (others : List (List ℕ)) (lengths : (f : ℕ) → length (file_of t.files f) ≡ length (file_of others f)) where
  text_printed : (x : Text) → SameText t others x → text_field t.files x ≡ text_field others x
  unfolding text_field part_field
  text_printed x h = rw (lengths x.file, h)

  named_printed : (x : Option Text) → SameNamed t others x → named_field t.files x ≡ named_field others x
  named_printed (Some x) h = text_printed x h
  named_printed None h = refl

  texts_printed : (x y : Text) → SameText t others x → SameText t others y → text_fields t.files x y ≡ text_fields others x y
  unfolding text_fields
  texts_printed x y h g = rw (text_printed x h, text_printed y g)

  fields_printed : (x : Line) → SameLine t others x → fields_text t.files x ≡ fields_text others x
  unfolding class_text ro_text protocol_text category_text name_text
  fields_printed (line.Info i) h = refl
  fields_printed (line.Class l) h = rw (named_printed l.superclass_name h)
  fields_printed (line.Ro r) h = rw (text_printed r.name h)
  fields_printed (line.Protocol p) h = rw (text_printed p.name h)
  fields_printed (line.Category l) h = rw (text_printed l.category.name h.0, named_printed l.class_name h.1)
  fields_printed (line.Row l) h = row_printed l.list l.mark l.row h
    where
      row_printed : (n : ℕ) (mark : Mark) (r : Row) → SameRow t others r → row_text t.files n r mark ≡ row_text others n r mark
      row_printed n mark (row.Method m) h = unfold method_text in rw (texts_printed m.selector m.types h.0 h.1)
      row_printed n mark (row.Ivar v) h = unfold ivar_text in rw (texts_printed v.name v.type_encoding h.0 h.1)
      row_printed n mark (row.Property p) h = unfold property_text in rw (texts_printed p.name p.attributes h.0 h.1)
  fields_printed (line.Name l) h = rw (text_printed l.name h)
  fields_printed (line.End l) h = refl

  lines_printed : (xs : List Line) → Each (SameLine t others) xs → flat_map (line_text t.files) xs ≡ flat_map (line_text others) xs
  unfolding flat_map line_text
  lines_printed [] h = refl
  lines_printed (x ∷ xs) h = rw (fields_printed x h.0, lines_printed xs h.1)

  -- Of whatever the listing gives.
  listing_printed : (o : Outcome (List Line)) → ((xs : List Line) → o ≡ value xs → Each (SameLine t others) xs) → listing_text t.files o ≡ listing_text others o
  listing_printed (value xs) h = lines_printed xs (h xs refl)
  listing_printed (absent r) h = refl
  listing_printed (refused k) h = refl

-- The page is still good: its lines, its text, marked or not, and the ranges are the same.
module _ (t u : Tables) (good : StillGood t u (used_by t)) where
  marked_texts : (w : Option Frames) (xs : List Line) → marked_listing w t ≡ value xs → Each (SameLine t u.files) xs
  marked_texts w xs e =
      let came = then_came (plain_listing t) (λ lines. value (marked_lines w lines)) xs e in
      let is : marked_lines w came.0 ≡ xs = cc in
      subst (Each (SameLine t u.files)) is (lines_marked_same t u.files w came.0 (same_texts t u good came.0 came.1))

  pub same_listing : SamePage t u
  same_listing =
      let lines = same_lines t u good in
      let lengths = lengths_same t.files u.files good.tables.lengths in
      let marks : (w : Option Frames) → marked_listing w t ≡ marked_listing w u = λ w. ap (λ (o : Outcome (List Line)). and_then o (λ xs. value (marked_lines w xs))) lines in
      record {
        lines = lines;
        text = listing_printed t u.files lengths (plain_listing t) (same_texts t u good) ∙ ap (listing_text u.files) lines;
        marked = marks;
        marked_text = λ w. listing_printed t u.files lengths (marked_listing w t) (marked_texts w) ∙ ap (listing_text u.files) (marks w);
        ranges = same_ranges t u good;
      }
