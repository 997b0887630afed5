-- Where every string that the plain listing's definition asks for ends, each record that the sections name has one outcome under both readings,
-- and so has each class_ro: where it is absent the reason is the same (document 02, note 12). Of classes nothing is to be said: they hold no
-- string.
use Rattle.std.proofs.Common.{◌≡◌, ℕ, List, [], ◌∷◌, sym, refl, ap, ◌∙◌, subst, arith}
use Rattle.reads.specs.Outcome.{Outcome, value, and_then}
use Rattle.reads.proofs.Outcomes.{then_came}
use Rattle.pointers.specs.Tables.{Tables}
use Rattle.records.specs.Asks.{Within, itself, in_first, in_next, in_trial, Each}
use Rattle.records.specs.Category.{decode_category, category_at}
use Rattle.records.specs.Class.{decode_class_name_of, decode_ro_of, ro_of}
use Rattle.records.specs.Decode.{Decode, tried_of, run}
use Rattle.records.specs.Protocol.{decode_protocol, protocol_at}
use Rattle.records.specs.Readings.{under_old, under_new, StringsEnd}
use Rattle.records.specs.declared.category.ObjcCategory.{ObjcCategory}
use Rattle.records.specs.declared.class.ObjcClass.{ObjcClass}
use Rattle.records.specs.declared.protocol.ObjcProtocol.{ObjcProtocol}
use Rattle.walks.proofs.Gathers.{There, there_known, Parts, joined_parts, each_came}
use Rattle.walks.specs.PlainSections.{listed}
use Rattle.walks.specs.Slots.{slots_of, decode_address, address_in}
use Rattle.walks.specs.declared.slots.Lists.TheVariants.{Categories, Protocols}
use Rattle.listing.specs.DecodeListing.{joined, gather, of_value, present, as_each, decode_classes, decode_categories, decode_protocols, decode_records, decode_named, decode_own_lines, decode_lines_of, decode_listing}
use Rattle.listing.specs.PlainListing.{plain_records, plain_listing}
use Rattle.listing.specs.declared.at.Record.{Record}
use Rattle.listing.specs.declared.at.Record.TheVariants as a_record
use Rattle.listing.specs.declared.line.Line.{Line}
use Rattle.listing.proofs.DecodedListing.{listed_runs, records_run, listing_runs}
use Rattle.listing.proofs.ListedAsBefore.{tried_as_before}

-- What holds where one of a gathered list is run holds of each of them, where all are.
module _ (t : Tables) {A B C : Type 0} (f : A → Decode (List B)) (P : A → Type 0) (e : Decode C) where
  gather_each : (xs : List A) (ys : List B) → run t (gather f xs) ≡ value ys
      → ((D : Type 0) (d : Decode D) → Within t d (List B) (gather f xs) → Within t d C e)
      → ((x : A) (zs : List B) → run t (f x) ≡ value zs → ((D : Type 0) (d : Decode D) → Within t d (List B) (f x) → Within t d C e) → P x)
      → Each P xs
  unfolding gather
  gather_each [] ys q lift h = tt
  gather_each (a ∷ rest) ys q lift h =
      let parts = joined_parts (run t (f a)) (run t (gather f rest)) q in
      (h a parts.first parts.of_first (λ D d w. lift D d (in_first _ w)), gather_each rest parts.second parts.of_second (λ D d w. lift D d (in_next parts.of_first (in_first _ w))) h)

module _ (t : Tables) (ends : StringsEnd t (decode_listing t.sections)) (there : There (plain_listing (under_old t))) where
  abbrev old : Tables
  old = under_old t

  abbrev In : {D : Type 0} → Decode D → Type 1
  In d = Within old d (List Line) (decode_listing t.sections)

  -- What the definition gives of its parts: the records with their lines; classes, protocols and categories.
  recorded : (xs : List Record) × (run old (decode_records t.sections) ≡ value xs) × (lines : List Line) × (run old (gather decode_lines_of xs) ≡ value lines)
  unfolding decode_listing
  recorded =
      let known = there_known there in
      let whole = then_came (run old (decode_listing t.sections)) _ known.known (listing_runs old ∙ known.is) in
      let records = then_came (run old (decode_records t.sections)) _ whole.0 whole.1 in
      let lines = then_came (run old (gather decode_lines_of records.0)) _ whole.0 records.2 in
      (records.0, records.1, lines.0, lines.1)

  abbrev class_part : Decode (List Record)
  class_part = as_each a_record.Class (decode_classes t.sections)

  abbrev protocol_part : Decode (List Record)
  protocol_part = as_each a_record.Protocol (decode_protocols t.sections)

  abbrev category_part : Decode (List Record)
  category_part = as_each a_record.Category (decode_categories t.sections)

  classes_gave : Parts (run old class_part) (run old (joined protocol_part category_part)) recorded.0
  unfolding decode_records
  classes_gave = joined_parts (run old class_part) (run old (joined protocol_part category_part)) recorded.1

  protocols_gave : Parts (run old protocol_part) (run old category_part) classes_gave.second
  protocols_gave = joined_parts (run old protocol_part) (run old category_part) classes_gave.of_second

  in_records : (D : Type 0) (d : Decode D) → Within old d (List Record) (decode_records t.sections) → In d
  unfolding decode_listing
  in_records D d w = in_first _ w

  in_protocols : (D : Type 0) (d : Decode D) → Within old d (List ObjcProtocol) (decode_protocols t.sections) → In d
  unfolding decode_records
  in_protocols D d w = in_records D d (in_next classes_gave.of_first (in_first _ (in_first _ (in_first _ w))))

  in_categories : (D : Type 0) (d : Decode D) → Within old d (List ObjcCategory) (decode_categories t.sections) → In d
  unfolding decode_records
  in_categories D d w = in_records D d (in_next classes_gave.of_first (in_first _ (in_next protocols_gave.of_first (in_first _ (in_first _ w)))))

  -- The protocol at the address in each slot of proto_list.
  pub protocols_as_before : Each (λ a. (p : ℕ) → address_in old a ≡ value p → protocol_at (under_new t) p ≡ protocol_at old p) (slots_of Protocols t.sections)
  unfolding decode_protocols
  protocols_as_before =
      let gave = each_came a_record.Protocol (run old (decode_protocols t.sections)) protocols_gave.of_first in
      gather_each old (λ a. of_value (decode_address a) (λ p. present (decode_protocol p))) _ (decode_listing t.sections) (slots_of Protocols t.sections)
      gave.0 gave.1 in_protocols
      (λ a zs e lift p q. tried_as_before t ends (decode_protocol p) (lift _ _ (in_next (ap tried_of q) (in_first _ (in_trial itself)))))

  -- The category at each address of cat_list and nlcat_list.
  pub categories_as_before : (xs : List ℕ) → listed old Categories ≡ value xs → Each (λ a. category_at (under_new t) a ≡ category_at old a) xs
  unfolding decode_categories
  categories_as_before xs q =
      let gave = each_came a_record.Category (run old (decode_categories t.sections)) protocols_gave.of_second in
      let slots = listed_runs old Categories ∙ q in
      let rest = ap (λ (o : Outcome (List ℕ)). and_then o (λ found. run old (gather (λ a. present (decode_category a)) found))) (sym slots) ∙ gave.1 in
      gather_each old (λ a. present (decode_category a)) _ (decode_listing t.sections) xs gave.0 rest
      (λ D d w. in_categories D d (in_next slots w))
      (λ a zs e lift. tried_as_before t ends (decode_category a) (lift _ _ (in_first _ (in_trial itself))))

  -- The class_ro of each class and metaclass that is listed.
  in_lines : (D : Type 0) (d : Decode D) → Within old d (List Line) (gather decode_lines_of recorded.0) → In d
  unfolding decode_listing
  in_lines D d w = in_next recorded.1 (in_first _ w)

  ro_same : (x : Record) (zs : List Line) → run old (decode_lines_of x) ≡ value zs → ((D : Type 0) (d : Decode D) → Within old d (List Line) (decode_lines_of x) → In d)
      → (c : ObjcClass) → x ≡ a_record.Class c → ro_of (under_new t) c ≡ ro_of old c
  unfolding decode_lines_of decode_own_lines
  ro_same (a_record.Class c) zs q lift d e =
      let name = decode_named (decode_class_name_of c.address c.superclass_address) in
      let own = then_came (run old (decode_own_lines (a_record.Class c))) _ zs q in
      let named = then_came (run old name) _ own.0 own.1 in
      let same : c ≡ d = cc in
      rw (← same) (tried_as_before t ends (decode_ro_of c) (lift _ _ (in_first _ (in_next named.1 (in_next refl (in_first _ (in_first _ (in_trial itself))))))))
  ro_same (a_record.Protocol p) zs q lift d e = let z : ◌≡◌ {A = ℕ} 0 1 = cc in absurd (omega arith)
  ro_same (a_record.Category k) zs q lift d e = let z : ◌≡◌ {A = ℕ} 0 1 = cc in absurd (omega arith)

  pub ros_as_before : (xs : List Record) → plain_records old ≡ value xs → Each (λ x. (c : ObjcClass) → x ≡ a_record.Class c → ro_of (under_new t) c ≡ ro_of old c) xs
  ros_as_before xs q =
      let found = sym recorded.1 ∙ records_run old ∙ q in
      let same : recorded.0 ≡ xs = cc in
      subst (Each _) same (gather_each old decode_lines_of _ (decode_listing t.sections) recorded.0 recorded.2 recorded.3 in_lines ro_same)
