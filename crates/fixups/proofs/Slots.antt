-- Every slot that a chain visits starts in its page, and no chain visits a slot twice: for every pointer format.
use Rattle.std.proofs.Common.{◌≡◌, ℕ, zero, suc, ◌+◌, ◌-◌, ◌%◌, ◌^◌, ◌<◌, ◌≤◌, Bool, true, false, eqb, ltb, List, [], ◌∷◌, length, get_or, sym, refl, ap, ◌∙◌, ap₂, arith, ltb-true}
use borrow.Author.Tests.{eqb-false}
use Rattle.reads.specs.Outcome.{Outcome, value, absent, refused, and_then, choose}
use Rattle.fixups.specs.FixupChains.{lies}
use Rattle.fixups.specs.Imports.{bound_slot, import_at}
use Rattle.fixups.specs.declared.name.Name.{Name}
use Rattle.fixups.specs.Chain.{Starts, rebase, slot_of, target_of, step_of, entry_of, visit_of, slot_word, Met, met, chain, chain_at}
use Rattle.fixups.specs.Slots.{slot_address, slots, InPage, Once, onwards, visited, Climbs, addresses}
use Rattle.fixups.specs.Slots.Climbs.{top, up}
use Rattle.fixups.specs.Slots.InPage.{none, slot}
use Rattle.fixups.specs.declared.chain.Fixups.{Fixups}
use Rattle.fixups.specs.declared.chain.Fixup.{Fixup}
use Rattle.fixups.specs.declared.chain.Fixup.TheVariants.{Rebase, Bind}
use Rattle.reads.specs.declared.answer.Question.TheVariants.{FixupSlot}

-- A record's slot is the one that was visited.
entry_by : (b : Bool) (i : Outcome Name) (a t : ℕ) (x : Fixup)
    → choose b (value (Rebase (rebase a t))) (and_then i (λ n. value (Bind (bound_slot a n)))) ≡ value x → slot_address x ≡ a
unfolding choose
entry_by true i a t x e = let q : Rebase (rebase a t) ≡ x = cc in sym (ap slot_address q)
entry_by false (value n) a t x e = let q : Bind (bound_slot a n) ≡ x = cc in sym (ap slot_address q)
entry_by false (absent r) a t x e = let z : ◌≡◌ {A = ℕ} 0 1 = cc in absurd (omega arith)
entry_by false (refused k) a t x e = let z : ◌≡◌ {A = ℕ} 0 1 = cc in absurd (omega arith)

entry_slot : (body : List ℕ) (f : Fixups) (s : Starts) (at w : ℕ) (x : Fixup) → entry_of body f s at w ≡ value x → slot_address x ≡ slot_of s at
unfolding entry_of
entry_slot body f s at w x e =
    entry_by (ltb w (2 ^ 63)) (import_at body f (w % 2 ^ 24)) (slot_of s at) (target_of s.format f.base w) x e

visit_by : (b : Bool) (e : Outcome Fixup) (w : ℕ) (m : Met) → choose b (and_then e (λ x. value (met x (step_of w)))) (refused FixupSlot) ≡ value m → e ≡ value m.fixup
unfolding choose
visit_by true (value x) w m q = let p : met x (step_of w) ≡ m = cc in ap (λ (t : Met). value t.fixup) p
visit_by true (absent r) w m q = let z : ◌≡◌ {A = ℕ} 0 1 = cc in absurd (omega arith)
visit_by true (refused k) w m q = let z : ◌≡◌ {A = ℕ} 0 1 = cc in absurd (omega arith)
visit_by false e w m q = let z : ◌≡◌ {A = ℕ} 0 1 = cc in absurd (omega arith)

visit_slot : (file body : List ℕ) (f : Fixups) (s : Starts) (at : ℕ) (m : Met) → visit_of file body f s at ≡ value m → slot_address m.fixup ≡ slot_of s at
unfolding visit_of
visit_slot file body f s at m q =
    entry_slot body f s at (slot_word file s at) m.fixup (visit_by (lies file (s.fileoff + at) 8) (entry_of body f s at (slot_word file s at)) (slot_word file s at) m q)

further : {s : Starts} {page p : ℕ} {xs : List Fixup} (o : ℕ) → o ≤ p → InPage s page p xs → InPage s page o xs
further o h none = none
further {p = p} o h (slot q a b e r) = slot {o = o} q (omega arith) b e r

module _ (file body : List ℕ) (f : Fixups) (s : Starts) (page : ℕ) where
  pub in_page : (k o : ℕ) (xs : List Fixup) → chain file body f s page k o ≡ value xs → InPage s page o xs
  unfolding chain choose
  in_page zero o xs e = let z : ◌≡◌ {A = ℕ} 0 1 = cc in absurd (omega arith)
  in_page (suc k) o xs e = go (λ n ys. in_page k n ys) (ltb o s.size) refl (visit_of file body f s (page + o)) refl e
    where
      rest : ((n : ℕ) (ys : List Fixup) → chain file body f s page k n ≡ value ys → InPage s page n ys)
          → (m : Met) → slot_address m.fixup ≡ slot_of s (page + o) → o < s.size → (t : Bool) → eqb m.step 0 ≡ t → (r : Outcome (List Fixup)) → chain file body f s page k (o + m.step) ≡ r
          → choose t (value (m.fixup ∷ [])) (and_then r (λ ys. value (m.fixup ∷ ys))) ≡ value xs → InPage s page o xs
      rest ih m a h true g r c q = let w : m.fixup ∷ [] ≡ xs = cc in rw (← w) (slot {o = o} o (omega arith) h a none)
      rest ih m a h false g (value ys) c q =
          let w : m.fixup ∷ ys ≡ xs = cc in
          let n = eqb-false m.step 0 g in
          rw (← w) (slot {o = o} o (omega arith) h a (further (suc o) (omega arith) (ih (o + m.step) ys c)))
      rest ih m a h false g (absent j) c q = let z : ◌≡◌ {A = ℕ} 0 1 = cc in absurd (omega arith)
      rest ih m a h false g (refused j) c q = let z : ◌≡◌ {A = ℕ} 0 1 = cc in absurd (omega arith)

      go : ((n : ℕ) (ys : List Fixup) → chain file body f s page k n ≡ value ys → InPage s page n ys)
          → (t : Bool) → ltb o s.size ≡ t → (v : Outcome Met) → visit_of file body f s (page + o) ≡ v
          → choose t (and_then v (λ m. choose (eqb m.step 0) (value (m.fixup ∷ [])) (and_then (chain file body f s page k (o + m.step)) (λ ys. value (m.fixup ∷ ys))))) (refused FixupSlot) ≡ value xs
          → InPage s page o xs
      go ih true h (value m) v q =
          rest ih m (visit_slot file body f s (page + o) m v) (ltb-true o s.size h) (eqb m.step 0) refl (chain file body f s page k (o + m.step)) refl q
      go ih true h (absent j) v q = let z : ◌≡◌ {A = ℕ} 0 1 = cc in absurd (omega arith)
      go ih true h (refused j) v q = let z : ◌≡◌ {A = ℕ} 0 1 = cc in absurd (omega arith)
      go ih false h v w q = let z : ◌≡◌ {A = ℕ} 0 1 = cc in absurd (omega arith)

-- Where the j-th slot stands.
place : {s : Starts} {page o : ℕ} {xs : List Fixup} → InPage s page o xs → (j : ℕ) → j < length (slots xs)
    → (p : ℕ) × (o ≤ p) × (p < s.size) × (get_or (slots xs) j 0 ≡ slot_of s (page + p))
place none j h = absurd (omega arith)
place (slot p a b e r) zero h = (p, a, b, e)
place {o = o} (slot p a b e r) (suc j) h = let w = place r j (omega arith) in (w.0, omega arith, w.2, w.3)

-- Two offsets of a page are two addresses, also modulo 2 ^ 64.
apart : (s : Starts) (page p q : ℕ) → s.size < 65536 → p < q → q < s.size → slot_of s (page + p) ≡ slot_of s (page + q) → ⊥
unfolding slot_of
apart s page p q h l m e = omega arith

once : {s : Starts} {page o : ℕ} {xs : List Fixup} → s.size < 65536 → InPage s page o xs → Once (slots xs)
once z none i j h l e = absurd (omega arith)
once z (slot p a b e r) zero zero h l q = absurd (omega arith)
once {s = s} {page = page} z (slot p a b e r) zero (suc j) h l q =
    let w = place r j (omega arith) in apart s page p w.0 z (omega arith) w.2 (sym e ∙ q ∙ w.3)
once z (slot p a b e r) (suc i) zero h l q = absurd (omega arith)
once z (slot p a b e r) (suc i) (suc j) h l q = once z r i j (omega arith) (omega arith) q

-- The two claims, for any pointer format.
module _ (file body : List ℕ) (f : Fixups) (vmaddr fileoff format size page start : ℕ) (xs : List Fixup)
    (walked : chain_at file body f (record { vmaddr = vmaddr; fileoff = fileoff; format = format; size = size }) page start ≡ value xs) where
  pub every_slot_in_page : InPage (record { vmaddr = vmaddr; fileoff = fileoff; format = format; size = size }) page start xs
  every_slot_in_page = in_page file body f (record { vmaddr = vmaddr; fileoff = fileoff; format = format; size = size }) page (size - start) start xs walked

  pub no_slot_twice : size < 65536 → Once (slots xs)
  no_slot_twice h = once h every_slot_in_page

-- The same of a chain that is refused on its way: it has read only at slots that start in the page, each after the one before it.
higher : {n p : ℕ} {ps : List ℕ} (o : ℕ) → o ≤ p → Climbs n p ps → Climbs n o ps
higher o h top = top
higher {p = p} o h (up q a b r) = up {o = o} q (omega arith) b r

module _ (file body : List ℕ) (f : Fixups) (s : Starts) (page : ℕ) where
  pub reads_in_page : (k o : ℕ) → Climbs s.size o (visited file body f s page k o)
  unfolding visited choose
  reads_in_page zero o = top
  reads_in_page (suc k) o = go (λ n. reads_in_page k n) (ltb o s.size) refl (visit_of file body f s (page + o))
    where
      next : ((n : ℕ) → Climbs s.size n (visited file body f s page k n)) → (m : Met) (t : Bool) → eqb m.step 0 ≡ t
          → Climbs s.size (suc o) (choose t [] (visited file body f s page k (o + m.step)))
      next ih m true g = top
      next ih m false g = let n = eqb-false m.step 0 g in higher (suc o) (omega arith) (ih (o + m.step))

      go : ((n : ℕ) → Climbs s.size n (visited file body f s page k n)) → (t : Bool) → ltb o s.size ≡ t → (v : Outcome Met)
          → Climbs s.size o (choose t (o ∷ onwards v (λ m. choose (eqb m.step 0) [] (visited file body f s page k (o + m.step)))) [])
      go ih true h (value m) = up {o = o} o (omega arith) (ltb-true o s.size h) (next ih m (eqb m.step 0) refl)
      go ih true h (absent j) = up {o = o} o (omega arith) (ltb-true o s.size h) top
      go ih true h (refused j) = up {o = o} o (omega arith) (ltb-true o s.size h) top
      go ih false h v = top

above : {n o : ℕ} {ps : List ℕ} → Climbs n o ps → (j : ℕ) → j < length ps → o ≤ get_or ps j 0
above top j h = absurd (omega arith)
above (up p a b r) zero h = a
above {o = o} (up p a b r) (suc j) h = omega (arith, above r j (omega arith))

pub climbs_once : {n o : ℕ} {ps : List ℕ} → Climbs n o ps → Once ps
climbs_once top i j h l e = absurd (omega arith)
climbs_once (up p a b r) zero zero h l e = absurd (omega arith)
climbs_once (up p a b r) zero (suc j) h l e = omega (arith, above r j (omega arith))
climbs_once (up p a b r) (suc i) zero h l e = absurd (omega arith)
climbs_once (up p a b r) (suc i) (suc j) h l e = climbs_once r i j (omega arith) (omega arith) e

-- The records of a chain that is not refused are those of the slots that it visits, in order.
module _ (file body : List ℕ) (f : Fixups) (s : Starts) (page : ℕ) where
  pub records_of_visited : (k o : ℕ) (xs : List Fixup) → chain file body f s page k o ≡ value xs → slots xs ≡ addresses s page (visited file body f s page k o)
  unfolding chain visited choose
  records_of_visited zero o xs e = let z : ◌≡◌ {A = ℕ} 0 1 = cc in absurd (omega arith)
  records_of_visited (suc k) o xs e = go (λ n ys. records_of_visited k n ys) (ltb o s.size) (visit_of file body f s (page + o)) refl e
    where
      rest : ((n : ℕ) (ys : List Fixup) → chain file body f s page k n ≡ value ys → slots ys ≡ addresses s page (visited file body f s page k n))
          → (m : Met) → slot_address m.fixup ≡ slot_of s (page + o) → (t : Bool) (r : Outcome (List Fixup)) → chain file body f s page k (o + m.step) ≡ r
          → choose t (value (m.fixup ∷ [])) (and_then r (λ ys. value (m.fixup ∷ ys))) ≡ value xs
          → slots xs ≡ slot_of s (page + o) ∷ addresses s page (choose t [] (visited file body f s page k (o + m.step)))
      rest ih m a true r c q = let w : m.fixup ∷ [] ≡ xs = cc in sym (ap slots w) ∙ ap (λ (n : ℕ). n ∷ []) a
      rest ih m a false (value ys) c q =
          let w : m.fixup ∷ ys ≡ xs = cc in
          sym (ap slots w) ∙ ap₂ (λ (n : ℕ) (l : List ℕ). n ∷ l) a (ih (o + m.step) ys c)
      rest ih m a false (absent j) c q = let z : ◌≡◌ {A = ℕ} 0 1 = cc in absurd (omega arith)
      rest ih m a false (refused j) c q = let z : ◌≡◌ {A = ℕ} 0 1 = cc in absurd (omega arith)

      go : ((n : ℕ) (ys : List Fixup) → chain file body f s page k n ≡ value ys → slots ys ≡ addresses s page (visited file body f s page k n))
          → (t : Bool) (v : Outcome Met) → visit_of file body f s (page + o) ≡ v
          → choose t (and_then v (λ m. choose (eqb m.step 0) (value (m.fixup ∷ [])) (and_then (chain file body f s page k (o + m.step)) (λ ys. value (m.fixup ∷ ys))))) (refused FixupSlot) ≡ value xs
          → slots xs ≡ addresses s page (choose t (o ∷ onwards v (λ m. choose (eqb m.step 0) [] (visited file body f s page k (o + m.step)))) [])
      go ih true (value m) v q = rest ih m (visit_slot file body f s (page + o) m v) (eqb m.step 0) (chain file body f s page k (o + m.step)) refl q
      go ih true (absent j) v q = let z : ◌≡◌ {A = ℕ} 0 1 = cc in absurd (omega arith)
      go ih true (refused j) v q = let z : ◌≡◌ {A = ℕ} 0 1 = cc in absurd (omega arith)
      go ih false v w q = let z : ◌≡◌ {A = ℕ} 0 1 = cc in absurd (omega arith)
