-- The whole call, by the branches of the code: counting first and then writing gives the table that the definition says.
use Rattle.std.proofs.Common.{◌≡◌, ℕ, ◌/◌, ◌^◌, ◌<◌, ◌≤◌, List, [], ◌∷◌, length, sym, refl, ap, ◌∙◌, ap₂, arith, le-leb}
use borrow.Author.Tests.{lt-leb}
use Rattle.reads.specs.Outcome.{Outcome, value, absent, refused, choose}
use Rattle.reads.proofs.Tests.{choose_true, choose_false}
use Rattle.pointers.specs.Tables.{bind_words}
use Rattle.macho.specs.Loader.{ncmds, cmdsize}
use Rattle.macho.specs.Commands.{command_bytes, asked_commands, of_kind, segments_of}
use Rattle.macho.specs.Segments.{written}
use Rattle.fixups.specs.Tables.{named_row, rows_of, Part, part, put_rows}
use Rattle.fixups.proofs.Building.{nil_of}
use Rattle.fixups.proofs.Pages.{next_of}
use Rattle.fixups.proofs.Rows.{Sized, whole, Counted, table_filled, table_counted}
use Rattle.opcodes.specs.DyldInfo.{dyld_info_kind, dyld_info_only_kind, earlier, first_info}
use Rattle.opcodes.specs.Streams.{streams_at}
use Rattle.opcodes.specs.Tables.{told, part_of, reached}
use Rattle.opcodes.specs.Binds.{binds_from, binds_in, binds_found, leaves, settled}
use Rattle.fixups.specs.declared.name.Bound.{Bound}
use Rattle.std.specs.Prelude.{Result, Ok, Err, Option, None, Some, MatchOption}
use Rattle.reads.specs.declared.answer.Question.{Question}
use Rattle.reads.specs.declared.answer.Question.TheVariants.{BindTable, FixupData}

-- A number, and no binds.
pub settled_number : (k : Question) (t : List ℕ) → leaves (refused k) t ≡ settled (refused k) t
unfolding settled
settled_number k t = refl

pub settled_none : (t : List ℕ) → leaves (value 0) t ≡ settled (value []) t
unfolding settled rows_of written choose
settled_none t = simp (le-leb 0 (length t) (omega arith))

module _ (file : List ℕ) where
  pub found_refused : (k : Question) → refused k ≡ asked_commands file → refused k ≡ binds_found file
  unfolding binds_found
  found_refused k e = rw (← e)

  module _ (asked : asked_commands file ≡ value tt) (cmds : List ℕ) (count : ℕ) (ec : cmds ≡ command_bytes file) (en : count ≡ ncmds file)
      (r : Option ℕ) (er : r ≡ first_info cmds count) where
    found_in : binds_found file ≡ binds_in file cmds count r
    unfolding binds_found
    found_in = rw (asked, er, ec, en)

    pub found_none : r ≡ None → value [] ≡ binds_found file
    unfolding binds_in
    found_none e = sym (found_in ∙ rw e)

    module _ (a : ℕ) (e : r ≡ Some a) where
      found_first : binds_from file cmds count a ≡ binds_found file
      unfolding binds_in
      found_first = sym (found_in ∙ rw e)

      pub found_short : cmdsize cmds a < 48 → refused FixupData ≡ binds_found file
      unfolding binds_from
      found_short l = sym (choose_false _ _ (lt-leb 48 (cmdsize cmds a) l)) ∙ found_first

      pub found_long : 48 ≤ cmdsize cmds a → streams_at file cmds (segments_of cmds count) a ≡ binds_found file
      unfolding binds_from
      found_long l = sym (choose_true _ _ (le-leb 48 (cmdsize cmds a) l)) ∙ found_first

-- The first command of either kind, as the code finds those of each.
module _ (cmds : List ℕ) (count : ℕ) (l m : List ℕ) (x y : Option ℕ) where
  pub info_by : MatchOption x ((of_kind dyld_info_kind cmds count 0 ≡ []) × (l ≡ [])) (λ a. of_kind dyld_info_kind cmds count 0 ≡ a ∷ l)
      → MatchOption y ((of_kind dyld_info_only_kind cmds count 0 ≡ []) × (m ≡ [])) (λ a. of_kind dyld_info_only_kind cmds count 0 ≡ a ∷ m)
      → earlier x y ≡ first_info cmds count
  info_by f g = ap₂ earlier (sym (next_of _ l x f).0) (sym (next_of _ m y g).0)

-- The count of a walk that was lent no room: w, with the table that it leaves.
module _ (x : Outcome Part) (w : Result (Unit {0}) Question) (p : Part) (seen : reached w p ≡ x) where
  pub count_there : w ≡ Ok tt → length p.words ≡ 0 → part_of (Ok p.count) [] ≡ x
  count_there e h = rw (← seen, e, nil_of p.words h)

  pub count_not : (k : Question) → w ≡ Err k → refused k ≡ x
  count_not k e = rw (← seen, e)

-- Both walks. w is what the first gave: it was lent no room.
sized : (x : Bound) → Sized bind_words (named_row x)
sized x = whole x.slot (x.name.at ∷ x.name.len ∷ 0 ∷ []) refl

module _ (t : List ℕ) (ht : length t < 2 ^ 64) (x : Outcome (List Bound)) (w : Result ℕ Question) (e : part_of w [] ≡ told x (part 0 [])) where
  pub refusing : (k : Question) → w ≡ Err k → leaves (refused k) t ≡ settled x t
  unfolding told settled
  refusing k g = go x (rw g at e)
    where
      go : (y : Outcome (List Bound)) → refused k ≡ told y (part 0 []) → leaves (refused k) t ≡ settled y t
      go (value xs) q = let z : refused k ≡ value (put_rows named_row xs (part 0 [])) = q in let y : ◌≡◌ {A = ℕ} 0 1 = cc in absurd (omega arith)
      go (absent r) q = let z : ◌≡◌ {A = Outcome Part} (refused k) (absent r) = q in let y : ◌≡◌ {A = ℕ} 0 1 = cc in absurd (omega arith)
      go (refused j) q = let z : ◌≡◌ {A = Outcome Part} (refused k) (refused j) = q in let y : k ≡ j = cc in rw y

  -- A walk that counted has made binds.
  module _ (n : ℕ) (g : w ≡ Ok n) where
    walked : (xs : List Bound) × (x ≡ value xs) × (part n [] ≡ put_rows named_row xs (part 0 []))
    unfolding told
    walked = go x refl (rw g at e)
      where
        go : (y : Outcome (List Bound)) → x ≡ y → value (part n []) ≡ told y (part 0 []) → (xs : List Bound) × (x ≡ value xs) × (part n [] ≡ put_rows named_row xs (part 0 []))
        go (value xs) p q = (xs, p, cc)
        go (absent j) p q = let z : value (part n []) ≡ absent j = q in let y : ◌≡◌ {A = ℕ} 0 1 = cc in absurd (omega arith)
        go (refused j) p q = let z : value (part n []) ≡ refused j = q in let y : ◌≡◌ {A = ℕ} 0 1 = cc in absurd (omega arith)

    counted : Counted n bind_words (rows_of named_row walked.0)
    counted = table_counted named_row sized walked.0 n [] walked.2

    pub is_6 : length t / bind_words < n → leaves (refused BindTable) t ≡ settled x t
    unfolding settled
    is_6 h = rw walked.1 (sym (choose_false _ _ (lt-leb _ _ (counted.short t ht h))))

    pub is_filled : n ≤ length t / bind_words → (v : Result (Unit {0}) Question) (p : Part) → reached v p ≡ told x (part 0 t) → leaves (value n) p.words ≡ settled x t
    unfolding settled told
    is_filled h v p u = rw walked.1 (go v (rw walked.1 at u))
      where
        go : (v' : Result (Unit {0}) Question) → reached v' p ≡ value (put_rows named_row walked.0 (part 0 t)) → leaves (value n) p.words ≡ settled (value walked.0) t
        go (Ok u) q =
            let m = p.count in let t' = p.words in
            let y : p ≡ put_rows named_row walked.0 (part 0 t) = cc in
            let z : part m t' ≡ put_rows named_row walked.0 (part 0 t) = y in
            let f = table_filled named_row sized walked.0 m t' t z (counted.fits t ht h) ht in
            ap (λ (i : ℕ). leaves (value i) t') (counted.exact t ht h)
            ∙ rw f (sym (choose_true _ _ (le-leb _ _ (counted.fits t ht h))))
        go (Err k) q = let z : ◌≡◌ {A = ℕ} 0 1 = cc in absurd (omega arith)
