-- A stream from any of its opcodes on, and one stream after the other.
use Rattle.std.proofs.Common.{◌≡◌, ℕ, zero, suc, ◌+◌, ◌-◌, ◌<◌, ◌≤◌, Bool, None, List, [], ◌∷◌, ◌++◌, length, get_or, take, drop, sym, refl, ap, ◌∙◌, ap₂, add-one, arith, length-drop, drop_of_length-le, length-take, take_all, drop-cons, drop-drop}
use Rattle.reads.specs.Outcome.{Outcome, value, absent, refused, and_then}
use Rattle.reads.specs.Place.{part as slice}
use Rattle.fixups.specs.Tables.{named_row, Part, put_row, put_rows}
use Rattle.opcodes.specs.Opcodes.{Opcode, decode, decoded_outcome}
use Rattle.opcodes.specs.DyldInfo.{stream_off, stream_size}
use Rattle.opcodes.specs.Binding.{unset, Moved, perform}
use Rattle.opcodes.specs.Streams.{walk, stream_at, joined}
use Rattle.opcodes.specs.Tables.{told, reached, told_at, told_by, ran_of, Next, next, next_of}
use Rattle.opcodes.specs.declared.binding.State.{State}
use Rattle.fixups.specs.declared.name.Bound.{Bound}
use Rattle.opcodes.specs.declared.opcode.Instruction.{Instruction}
use Rattle.opcodes.proofs.Sizes.{decode_within}
use Rattle.std.specs.Prelude.{Result, Ok, Err}
use Rattle.reads.specs.declared.answer.Question.{Question}

puts_append : (xs ys : List Bound) (p : Part) → put_rows named_row (xs ++ ys) p ≡ put_rows named_row ys (put_rows named_row xs p)
unfolding put_rows
puts_append [] ys p = refl
puts_append (x ∷ xs) ys p = puts_append xs ys (put_row (named_row x) p)

told_after : (ys : List Bound) (w : Outcome (List Bound)) (p : Part)
    → told (and_then w (λ xs. value (ys ++ xs))) p ≡ told w (put_rows named_row ys p)
unfolding told
told_after ys (value xs) p = rw (puts_append ys xs p)
told_after ys (absent r) p = refl
told_after ys (refused k) p = refl

-- The state that the code begins with, by its parts.
pub unset_is : (s : State) → (s.place ≡ None) × ((s.offset ≡ 0) × (s.name ≡ None)) → s ≡ unset
unset_is s e = rw (e.0, e.1.0, e.1.1)

-- What follows an opcode, by what it leaves.
abbrev after : (Opcode → Outcome Moved) → Part → Opcode → Outcome Next
after does p d = and_then (told_by (does d) p) (λ t. value (next t d.size))

-- One opcode, as the code sees it.
module _ (d : Outcome Opcode) (p : Part) where
  pub step_refused : (does : Opcode → Outcome Moved) (r : Result (Instruction × ℕ) Question) (k : Question) → decoded_outcome r ≡ d → r ≡ Err k → refused k ≡ and_then d (after does p)
  step_refused does r k e g = rw (← e, g)

  module _ (does : Opcode → Outcome Moved) (r : Result (Instruction × ℕ) Question) (x : Instruction × ℕ) (e : decoded_outcome r ≡ d) (g : r ≡ Ok x)
      (v : Result State Question) (t : Part) (seen : ran_of v t ≡ told_by (does (record { says = x.0; size = x.1 })) p) where
    pub step_on : (m : State) → v ≡ Ok m → value (next (told_at m t) x.1) ≡ and_then d (after does p)
    step_on m f = rw (← e, g) (rw (← seen, f))

    pub step_not : (k : Question) → v ≡ Err k → refused k ≡ and_then d (after does p)
    step_not k f = rw (← e, g) (rw (← seen, f))

-- A stream goes on with what is left.
abbrev onwards : Outcome Opcode → (Opcode → Outcome Moved) → (ℕ → State → Outcome (List Bound)) → Outcome (List Bound)
onwards d does rest = and_then d (λ o. and_then (does o) (λ m. and_then (rest o.size m.state) (λ xs. value (m.binds ++ xs))))

module _ (does : Opcode → Outcome Moved) (rest : ℕ → State → Outcome (List Bound)) (p : Part) where
  goes_refused : (d : Outcome Opcode) (k : Question) → refused k ≡ and_then d (after does p) → refused k ≡ told (onwards d does rest) p
  unfolding told told_by
  goes_refused (absent r) k e = let z : ◌≡◌ {A = ℕ} 0 1 = cc in absurd (omega arith)
  goes_refused (refused j) k e = cc
  goes_refused (value o) k e = go (does o) e
    where
      go : (m : Outcome Moved) → refused k ≡ and_then (and_then m (λ m. value (told_at m.state (put_rows named_row m.binds p)))) (λ t. value (next t o.size))
          → refused k ≡ and_then (and_then m (λ m. and_then (rest o.size m.state) (λ xs. value (m.binds ++ xs)))) (λ xs. value (put_rows named_row xs p))
      go (value m) q = let z : ◌≡◌ {A = ℕ} 0 1 = cc in absurd (omega arith)
      go (absent j) q = let z : ◌≡◌ {A = ℕ} 0 1 = cc in absurd (omega arith)
      go (refused j) q = cc

  goes_on : (d : Outcome Opcode) (s : State) (n : ℕ) (t : Part) → value (next (told_at s t) n) ≡ and_then d (after does p)
      → told (onwards d does rest) p ≡ told (rest n s) t
  unfolding told_by
  goes_on (absent r) s n t e = let z : ◌≡◌ {A = ℕ} 0 1 = cc in absurd (omega arith)
  goes_on (refused j) s n t e = let z : ◌≡◌ {A = ℕ} 0 1 = cc in absurd (omega arith)
  goes_on (value o) s n t e = go (does o) e
    where
      go : (y : Outcome Moved)
          → value (next (told_at s t) n) ≡ and_then (and_then y (λ y. value (told_at y.state (put_rows named_row y.binds p)))) (λ t. value (next t o.size))
          → told (and_then y (λ y. and_then (rest o.size y.state) (λ xs. value (y.binds ++ xs)))) p ≡ told (rest n s) t
      go (absent j) q = let z : ◌≡◌ {A = ℕ} 0 1 = cc in absurd (omega arith)
      go (refused j) q = let z : ◌≡◌ {A = ℕ} 0 1 = cc in absurd (omega arith)
      go (value y) q =
          let z : next (told_at s t) n ≡ next (told_at y.state (put_rows named_row y.binds p)) o.size = cc in
          told_after y.binds (rest o.size y.state) p
          ∙ sym (ap (λ (w : Next). told (rest w.size w.told.state) w.told.table) z)

  size_of : (d : Outcome Opcode) (s : State) (n : ℕ) (t : Part) → value (next (told_at s t) n) ≡ and_then d (after does p)
      → (o : Opcode) × (d ≡ value o) × (n ≡ o.size)
  unfolding told_by
  size_of (absent r) s n t e = let z : ◌≡◌ {A = ℕ} 0 1 = cc in absurd (omega arith)
  size_of (refused j) s n t e = let z : ◌≡◌ {A = ℕ} 0 1 = cc in absurd (omega arith)
  size_of (value o) s n t e = go (does o) e
    where
      go : (y : Outcome Moved)
          → value (next (told_at s t) n) ≡ and_then (and_then y (λ y. value (told_at y.state (put_rows named_row y.binds p)))) (λ t. value (next t o.size))
          → (o' : Opcode) × (value o ≡ value o') × (n ≡ o'.size)
      go (absent j) q = let z : ◌≡◌ {A = ℕ} 0 1 = cc in absurd (omega arith)
      go (refused j) q = let z : ◌≡◌ {A = ℕ} 0 1 = cc in absurd (omega arith)
      go (value y) q =
          let z : next (told_at s t) n ≡ next (told_at y.state (put_rows named_row y.binds p)) o.size = cc in
          (o, refl, ap (λ (w : Next). w.size) z)

module _ (end : ℕ) (cmds segs : List ℕ) (parts : Bool) where
  -- Operands that were read are passed over.
  walk_skip : (place : ℕ) (bytes : List ℕ) (k : ℕ) (s : State)
      → walk end cmds segs parts place bytes k s ≡ walk end cmds segs parts (place + k) (drop k bytes) 0 s
  unfolding walk
  walk_skip place [] zero s = refl
  walk_skip place [] (suc k) s = refl
  walk_skip place (b ∷ bytes) zero s = let e : place ≡ place + 0 = omega arith in ap (λ (n : ℕ). walk end cmds segs parts n (b ∷ bytes) 0 s) e
  walk_skip place (b ∷ bytes) (suc k) s =
      let e : place + 1 + k ≡ place + suc k = omega arith in
      walk_skip (place + 1) bytes k s ∙ ap (λ (n : ℕ). walk end cmds segs parts n (drop k bytes) 0 s) e

  -- The opcode at i of a stream that stands at `at`, before the bytes that the code lends with it.
  module _ (at : ℕ) (body : List ℕ) (i : ℕ) (s : State) (p : Part) (h : i < length body) where
    abbrev rest : List ℕ
    rest = take (length body - (i + 1)) (drop (i + 1) body)

    all_rest : rest ≡ drop (i + 1) body
    all_rest = take_all (length body - (i + 1)) (drop (i + 1) body) (omega (arith, length-drop (i + 1) body))

    abbrev does : Opcode → Outcome Moved
    does d = perform end cmds segs d.says s

    abbrev later : ℕ → State → Outcome (List Bound)
    later k t = walk end cmds segs parts (at + i + 1) rest k t

    abbrev here : Outcome Opcode
    here = decode parts (at + i + 1) (get_or body i 0) rest

    walk_at : walk end cmds segs parts (at + i) (drop i body) 0 s ≡ onwards here does later
    unfolding walk
    walk_at = rw all_rest (simp (drop-cons body i 0 h, add-one))

    module _ (v : Result (State × ℕ) Question) (t : Part) (seen : next_of v t ≡ and_then here (after does p)) where
      pub walk_refused : (k : Question) → v ≡ Err k → refused k ≡ told (walk end cmds segs parts (at + i) (drop i body) 0 s) p
      walk_refused k e = goes_refused does later p here k (rw e at seen) ∙ sym (ap (λ (w : Outcome (List Bound)). told w p) walk_at)

      module _ (r : State × ℕ) (e : v ≡ Ok r) where
        abbrev s' : State
        s' = r.0

        abbrev n : ℕ
        n = r.1

        pub walk_size : i + 1 + n ≤ length body
        walk_size =
            let q = size_of does later p here s' n t (rw e at seen) in
            omega (
              arith,
              decode_within rest parts (at + i + 1) (get_or body i 0) q.0 q.1,
              q.2,
              ap (λ (l : List ℕ). length l) all_rest,
              length-drop (i + 1) body,
            )

        pub walk_on : told (walk end cmds segs parts (at + i) (drop i body) 0 s) p
            ≡ told (walk end cmds segs parts (at + (i + (1 + n))) (drop (i + (1 + n)) body) 0 s') t
        walk_on =
            let a : at + i + 1 + n ≡ at + (i + (1 + n)) = omega arith in
            let c : i + 1 + n ≡ i + (1 + n) = omega arith in
            ap (λ (w : Outcome (List Bound)). told w p) walk_at ∙ goes_on does later p here s' n t (rw e at seen)
            ∙ ap (λ (w : Outcome (List Bound)). told w t)
            (walk_skip (at + i + 1) rest n s'
            ∙ ap₂ (λ (k : ℕ) (l : List ℕ). walk end cmds segs parts k l 0 s') a
            (ap (λ (l : List ℕ). drop n l) all_rest ∙ drop-drop n (i + 1) body ∙ ap (λ (k : ℕ). drop k body) c))

  pub walk_done : (place : ℕ) (body : List ℕ) (i : ℕ) (s : State) (p : Part) → length body ≤ i
      → value p ≡ told (walk end cmds segs parts place (drop i body) 0 s) p
  unfolding walk told put_rows
  walk_done place body i s p h = rw (drop_of_length-le body h)

-- The stream of a field.
pub stream_is : (file cmds segs : List ℕ) (a field : ℕ) (parts : Bool) (at size : ℕ) (body : List ℕ) → at ≡ stream_off cmds a field → size ≡ stream_size cmds a field
    → body ≡ slice file at size → walk (length file) cmds segs parts at body 0 unset ≡ stream_at file cmds segs a field parts
unfolding stream_at
stream_is file cmds segs a field parts at size body ea es eb = rw (eb, es, ea)

pub stream_short : (file : List ℕ) (at size : ℕ) (body : List ℕ) → body ≡ slice file at size → length body ≤ size
stream_short file at size body e = omega (arith, ap (λ (l : List ℕ). length l) e, length-take size (drop at file))

-- Two streams.
told_joined : (x y : Outcome (List Bound)) (p : Part) → told (joined x y) p ≡ and_then (told x p) (told y)
unfolding told joined
told_joined (value xs) (value ys) p = rw (puts_append xs ys p)
told_joined (value xs) (absent r) p = refl
told_joined (value xs) (refused k) p = refl
told_joined (absent r) y p = refl
told_joined (refused k) y p = refl

-- What the code sees of the first: w, with what it leaves in the table.
module _ (x y : Outcome (List Bound)) (p : Part) (w : Result (Unit {0}) Question) (t : Part) (seen : reached w t ≡ told x p) where
  pub then : w ≡ Ok tt → told y t ≡ told (joined x y) p
  then e = sym (told_joined x y p ∙ rw (← seen, e))

  pub stops : (k : Question) → w ≡ Err k → refused k ≡ told (joined x y) p
  stops k e = sym (told_joined x y p ∙ rw (← seen, e))
