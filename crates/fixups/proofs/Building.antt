-- The whole call, by the branches of the code: counting first and then writing gives the tables that the definition says.
use Rattle.std.proofs.Common.{◌≡◌, ℕ, zero, suc, Bool, cond, ◌+◌, ◌/◌, ◌^◌, ◌<◌, ◌≤◌, true, false, List, [], ◌∷◌, length, sym, refl, ◌∙◌, ap₂, arith, le-leb}
use borrow.Author.Tests.{lt-leb}
use Rattle.std.specs.List.{find}
use lib.ListN.{get_or}
use Rattle.reads.specs.Outcome.{Outcome, value, absent, refused, choose}
use Rattle.reads.specs.Place.{part}
use Rattle.reads.proofs.Tests.{choose_true, choose_false}
use Rattle.pointers.specs.Tables.{rebase_words, bind_words}
use Rattle.pointers.specs.Symbol.{ascii}
use Rattle.macho.specs.Loader.{ncmds, cmdsize, vmaddr, segment_kind}
use Rattle.macho.specs.Commands.{command_bytes, asked_commands, of_kind, segments_of}
use Rattle.macho.specs.Segments.{written}
use Rattle.macho.proofs.Commands.{Room, AllGood, first_good}
use Rattle.macho.specs.Sections.{named, padded}
use Rattle.fixups.specs.FixupChains.{chained_fixups_kind, dataoff, datasize}
use Rattle.fixups.specs.Starts.{image_starts, fixups_of, walk_of}
use Rattle.fixups.specs.declared.chain.Fixups.{Fixups}
use Rattle.reads.specs.Answer.{answered}
use Rattle.fixups.specs.Tables.{rebase_row, bind_row, rows_of, State, state, puts, told, state_of, reached}
use Rattle.fixups.specs.Fixups.{base_of, fixups_from, fixups_in, fixups_found, pair, leaves, settled}
use Rattle.fixups.specs.declared.chain.Fixup.{Fixup}
use Rattle.std.specs.Prelude.{Result, Ok, Err, Option, Some, None, MatchOption}
use Rattle.fixups.proofs.Rows.{rebases_filled, binds_filled, Counted, rebases_counted, binds_counted}
use Rattle.reads.specs.declared.answer.Question.{Question}
use Rattle.reads.specs.declared.answer.Question.TheVariants.{RebaseTable, BindTable, FixupData}

pub nil_of : (l : List ℕ) → length l ≡ 0 → l ≡ []
nil_of [] e = refl
nil_of (x ∷ l) e = absurd (omega arith)

-- The counts of a walk that was lent no room: w, with the tables that it leaves.
module _ (x : Outcome State) (w : Result (Unit {0}) Question) (s : State) (seen : reached w s ≡ x) where
  pub counted : w ≡ Ok tt → length s.rebases.words ≡ 0 → length s.binds.words ≡ 0 → state_of (Ok (s.rebases.count, s.binds.count)) [] [] ≡ x
  counted e h g = rw (← seen, e, nil_of s.rebases.words h, nil_of s.binds.words g)

  pub uncounted : (k : Question) → w ≡ Err k → refused k ≡ x
  uncounted k e = rw (← seen, e)

-- The image base, by the first segment of the name.
abbrev pub is_text : List ℕ → ℕ → Bool
is_text cmds a = named cmds (padded (ascii "__TEXT")) (a + 8)

abbrev pub base_at : List ℕ → Option ℕ → ℕ
base_at cmds None = 0
base_at cmds (Some a) = vmaddr cmds a

pub base_found : (cmds segs : List ℕ) → base_at cmds (find (is_text cmds) segs) ≡ base_of cmds segs
unfolding base_of choose
base_found cmds [] = refl
base_found cmds (a ∷ segs) = go (is_text cmds a) (base_found cmds segs)
  where
    go : (t : Bool) → base_at cmds (find (is_text cmds) segs) ≡ base_of cmds segs
        → base_at cmds (cond t (Some a) (find (is_text cmds) segs)) ≡ choose t (vmaddr cmds a) (base_of cmds segs)
    go true h = refl
    go false h = h

pub base_read : (cmds : List ℕ) (n : ℕ) (P : ℕ → Type 0) (r : Option ℕ) → MatchOption r (n ≡ 0) P → ((a : ℕ) → P a → n ≡ vmaddr cmds a) → n ≡ base_at cmds r
base_read cmds n P None h f = h
base_read cmds n P (Some a) h f = f a h

-- A segment of those that fit.
pub segment_room : (cmds segs : List ℕ) → AllGood segment_kind cmds segs → (k d : ℕ) → k < length segs → Room cmds (get_or segs k d)
segment_room cmds [] h k d l = absurd (omega arith)
segment_room cmds (a ∷ segs) h zero d l = (first_good segment_kind cmds _ a segs h refl).here
segment_room cmds (a ∷ segs) h (suc k) d l = segment_room cmds segs (first_good segment_kind cmds _ a segs h refl).later k d (omega arith)

-- A number, and no records.
pub settled_number : (k : Question) (rs bs : List ℕ) → leaves (refused k) rs bs ≡ settled (refused k) rs bs
unfolding settled
settled_number k rs bs = refl

pub settled_none : (rs bs : List ℕ) → leaves (value (pair 0 0)) rs bs ≡ settled (value []) rs bs
unfolding settled rows_of written choose
settled_none rs bs = simp (le-leb 0 (length rs) (omega arith), le-leb 0 (length bs) (omega arith))

module _ (file cmds : List ℕ) (count a : ℕ) where
  pub from_short : cmdsize cmds a < 16 → fixups_from file cmds count a ≡ refused FixupData
  unfolding fixups_from
  from_short h = choose_false _ _ (lt-leb 16 (cmdsize cmds a) h)

  module _ (h : 16 ≤ cmdsize cmds a) (body : List ℕ) (at from size base : ℕ) (eb : body ≡ part file from size) (ea : at ≡ dataoff cmds a) (ef : from ≡ at)
      (es : size ≡ datasize cmds a) (e : base ≡ base_of cmds (segments_of cmds count)) where
    from_data : walk_of file body cmds at base (segments_of cmds count) ≡ fixups_from file cmds count a
    unfolding fixups_from
    from_data = rw (eb, e, es, ef, ea) (sym (choose_true _ _ (le-leb 16 (cmdsize cmds a) h)))

    -- r is what the code reads of the header.
    module _ (r : Result Fixups Question) (er : answered r ≡ fixups_of body at base) where
      pub from_header : (f : Fixups) → r ≡ Ok f → image_starts file body cmds f (segments_of cmds count) ≡ fixups_from file cmds count a
      unfolding walk_of
      from_header f g = rw (← er, g) at from_data

      pub from_no_header : (k : Question) → r ≡ Err k → refused k ≡ fixups_from file cmds count a
      unfolding walk_of
      from_no_header k g = rw (← er, g) at from_data

module _ (file : List ℕ) where
  pub found_refused : (k : Question) → refused k ≡ asked_commands file → refused k ≡ fixups_found file
  unfolding fixups_found
  found_refused k e = rw (← e)

  module _ (asked : asked_commands file ≡ value tt) (cmds : List ℕ) (count : ℕ) (ec : cmds ≡ command_bytes file) (en : count ≡ ncmds file)
      (r : Option ℕ) (others : List ℕ)
      (f : MatchOption r ((of_kind chained_fixups_kind cmds count 0 ≡ []) × (others ≡ [])) (λ b. of_kind chained_fixups_kind cmds count 0 ≡ b ∷ others)) where
    found_in : fixups_found file ≡ fixups_in file cmds count (of_kind chained_fixups_kind cmds count 0)
    unfolding fixups_found
    found_in = rw (asked, ec, en)

    pub found_none : r ≡ None → value [] ≡ fixups_found file
    unfolding fixups_in
    found_none e = let g = rw e at f in sym (found_in ∙ rw g.0)

    pub found_first : (b : ℕ) → r ≡ Some b → fixups_from file cmds count b ≡ fixups_found file
    unfolding fixups_in
    found_first b e = let g = rw e at f in sym (found_in ∙ rw g)

-- Both walks. w is what the first gave: it was lent no room.
module _ (rs bs : List ℕ) (hr : length rs < 2 ^ 64) (hb : length bs < 2 ^ 64) where
  abbrev nothing : State
  nothing = state 0 0 [] []

  pub refusing : (x : Outcome (List Fixup)) (w : Result (ℕ × ℕ) Question) → state_of w [] [] ≡ told x nothing → (k : Question) → w ≡ Err k → leaves (refused k) rs bs ≡ settled x rs bs
  unfolding told settled
  refusing (value xs) w e k g = let z : refused k ≡ value (puts xs nothing) = rw g at e in let q : ◌≡◌ {A = ℕ} 0 1 = cc in absurd (omega arith)
  refusing (absent r) w e k g = let z : ◌≡◌ {A = Outcome State} (refused k) (absent r) = rw g at e in let q : ◌≡◌ {A = ℕ} 0 1 = cc in absurd (omega arith)
  refusing (refused j) w e k g = let z : ◌≡◌ {A = Outcome State} (refused k) (refused j) = rw g at e in let q : k ≡ j = cc in rw q

  -- A walk that counted has found records.
  module _ (x : Outcome (List Fixup)) (w : Result (ℕ × ℕ) Question) (e : state_of w [] [] ≡ told x nothing) (t : ℕ × ℕ) (g : w ≡ Ok t) where
    abbrev r : ℕ
    r = t.0

    abbrev b : ℕ
    b = t.1

    walked : (xs : List Fixup) × (x ≡ value xs) × (state r b [] [] ≡ puts xs nothing)
    unfolding told
    walked = go x refl (rw g at e)
      where
        go : (y : Outcome (List Fixup)) → x ≡ y → value (state r b [] []) ≡ told y nothing → (xs : List Fixup) × (x ≡ value xs) × (state r b [] [] ≡ puts xs nothing)
        go (value xs) p q = (xs, p, cc)
        go (absent j) p q = let z : value (state r b [] []) ≡ absent j = q in let y : ◌≡◌ {A = ℕ} 0 1 = cc in absurd (omega arith)
        go (refused j) p q = let z : value (state r b [] []) ≡ refused j = q in let y : ◌≡◌ {A = ℕ} 0 1 = cc in absurd (omega arith)

    xs : List Fixup
    xs = walked.0

    rebases_count : Counted r rebase_words (rows_of rebase_row walked.0)
    rebases_count = rebases_counted walked.0 r b [] [] walked.2

    binds_count : Counted b bind_words (rows_of bind_row walked.0)
    binds_count = binds_counted walked.0 r b [] [] walked.2

    pub is_5 : length rs / rebase_words < r → leaves (refused RebaseTable) rs bs ≡ settled x rs bs
    unfolding settled
    is_5 h = rw walked.1 (sym (choose_false _ _ (lt-leb _ _ (rebases_count.short rs hr h))))

    module _ (p : r ≤ length rs / rebase_words) where
      pub is_6 : length bs / bind_words < b → leaves (refused BindTable) rs bs ≡ settled x rs bs
      unfolding settled
      is_6 h = rw walked.1 (sym (choose_true _ _ (le-leb _ _ (rebases_count.fits rs hr p)) ∙ choose_false _ _ (lt-leb _ _ (binds_count.short bs hb h))))

      pub is_filled : b ≤ length bs / bind_words → (v : Result (Unit {0}) Question) (s : State) → reached v s ≡ told x (state 0 0 rs bs)
          → leaves (value (pair r b)) s.rebases.words s.binds.words ≡ settled x rs bs
      unfolding settled told
      is_filled q v s u = rw walked.1 (go v (rw walked.1 at u))
        where
          go : (v' : Result (Unit {0}) Question) → reached v' s ≡ value (puts walked.0 (state 0 0 rs bs))
              → leaves (value (pair r b)) s.rebases.words s.binds.words ≡ settled (value walked.0) rs bs
          go (Ok u) h =
              let n = s.rebases.count in let m = s.binds.count in let rs' = s.rebases.words in let bs' = s.binds.words in
              let y : s ≡ puts walked.0 (state 0 0 rs bs) = cc in
              let z : state n m rs' bs' ≡ puts walked.0 (state 0 0 rs bs) = y in
              let er = rebases_filled walked.0 n m rs' bs' rs bs z (rebases_count.fits rs hr p) hr in
              let eb = binds_filled walked.0 n m rs' bs' rs bs z (binds_count.fits bs hb q) hb in
              ap₂ (λ (i j : ℕ). leaves (value (pair i j)) rs' bs') (rebases_count.exact rs hr p) (binds_count.exact bs hb q)
              ∙ rw (er, eb)
              (sym (choose_true _ _ (le-leb _ _ (rebases_count.fits rs hr p)) ∙ choose_true _ _ (le-leb _ _ (binds_count.fits bs hb q))))
          go (Err k) h = let z : ◌≡◌ {A = ℕ} 0 1 = cc in absurd (omega arith)
