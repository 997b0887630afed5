-- Laws of a sweep: one for each branch of its code, and what is put out when bytes are passed.
use Prim.Native.Nat.{ℕ, zero, suc, ◌+◌, ◌-◌, ◌*◌, ◌/◌, ◌≤◌, ◌<◌, ◌^◌, min}
use mathlib.Core.Path.{◌≡◌, refl, ap, sym, ◌∙◌}
use mathlib.Core.Bool.{Bool}
use mathlib.Core.List.{List, [], ◌∷◌, ◌++◌, append_assoc}
use native.Mathlib.Numerals.{add-one, add-two}
use native.Mathlib.Omega.{arith}
use lib.ListN.{length, take, drop}
use lib.Seq.{sets-eq}
use borrow.Rule.Slice.PartMut.{put_mid, Post-is}
use borrow.Author.Tests.{lt-ltb, le-ltb}
use Rattle.reads.specs.Outcome.{choose}
use Rattle.ranges.specs.Range.{Range, range}
use Rattle.ranges.specs.Runs.{run, runs}
use Rattle.ranges.specs.Sheet.{marked_at, shown}
use Rattle.ranges.specs.Sweep.{more, Output, output, put_at, tell, Progress, progress_of, closed_at, passed, swept, leapt}

pub put_room : (out : List ℕ) (i file offset len : ℕ) → i < length out / 3 → {part : List ℕ} → part ≡ file ∷ offset ∷ len ∷ []
    → put_mid (i * 3) (i * 3 + 3 - i * 3) out part ≡ put_at out i (range file offset len)
unfolding put_at choose
put_room out i file offset len h p =
    rw (p, lt-ltb i (length out / 3) h, Post-is (i * 3) (i * 3 + 3) out (omega arith), add-one (i * 3), add-two (i * 3))
    (sym (append_assoc (take (i * 3) out) (file ∷ offset ∷ len ∷ []) (drop (i * 3 + 3) out))
    ∙ sym (sets-eq (file ∷ offset ∷ len ∷ []) out (i * 3) (omega arith)))

pub put_full : (out : List ℕ) (i file offset len : ℕ) → length out / 3 ≤ i → out ≡ put_at out i (range file offset len)
unfolding put_at choose
put_full out i file offset len h = rw (le-ltb i (length out / 3) h)

pub closed_run : (file b start count c : ℕ) (out out' : List ℕ) → start < b → out' ≡ put_at out count (range file start (b - start)) → c ≡ min (count + 1) (2 ^ 64 - 1)
    → output c out' ≡ closed_at file b (progress_of start (output count out))
unfolding closed_at tell run choose more
closed_run file b start count c out out' h e d = rw (lt-ltb start b h, e, d, add-one)

pub closed_none : (file b start count : ℕ) (out : List ℕ) → b ≤ start → output count out ≡ closed_at file b (progress_of start (output count out))
unfolding closed_at tell run choose
closed_none file b start count out h = rw (le-ltb start b h)

pub leapt_far : (file at n next count : ℕ) (out : List ℕ) (p : Progress) → n < next → output count out ≡ closed_at file (at + n) p
    → progress_of (at + next) (output count out) ≡ leapt file at n next p
unfolding leapt choose
leapt_far file at n next count out p h e = rw (lt-ltb n next h, e)

pub leapt_near : (file at n next : ℕ) (p : Progress) → next ≤ n → p ≡ leapt file at n next p
unfolding leapt choose
leapt_near file at n next p h = rw (le-ltb n next h)

pub shown_at : (from k : ℕ) (m : List ℕ) → shown from m (from + k) ≡ marked_at m k
unfolding shown
shown_at from k m = ap (marked_at m) (omega arith)

-- One byte more of the n from `from` on.
pub swept_more : (file : ℕ) (u : ℕ → Bool) (from n k : ℕ) (p p' : Progress) → k < n → p' ≡ passed file (u (from + k)) (from + k) p
    → swept file u (n - (k + 1)) (from + (k + 1)) p' ≡ swept file u (n - k) (from + k) p
unfolding swept
swept_more file u from n k p p' h e =
    let left : n - k ≡ suc (n - (k + 1)) = omega arith in
    let here : from + (k + 1) ≡ suc (from + k) = omega arith in
    rw (left, here, e)

-- What a sweep puts out, its last run too, is the runs.
pub tell_append : (rs ss : List Range) (o : Output) → tell (rs ++ ss) o ≡ tell ss (tell rs o)
unfolding tell
tell_append [] ss o = refl
tell_append (r ∷ rs) ss o = tell_append rs ss (output (more o.count) (put_at o.words o.count r))

pub swept_runs : (file : ℕ) (u : ℕ → Bool) (k b : ℕ) (p : Progress) → closed_at file (b + k) (swept file u k b p) ≡ tell (runs file u k b p.start) p.told
unfolding swept runs closed_at passed
swept_runs file u zero b p = ap (λ n. tell (run file p.start n) p.told) (omega arith)
swept_runs file u (suc k) b p =
    let end : b + suc k ≡ suc b + k = omega arith in
    rw (end, tell_append) (swept_runs file u k (suc b) (passed file (u b) b p))

-- Two tests that agree on the bytes passed.
pub swept_same : (file : ℕ) (u v : ℕ → Bool) (k b : ℕ) (p : Progress) → ((x : ℕ) → b ≤ x → x < b + k → u x ≡ v x) → swept file u k b p ≡ swept file v k b p
unfolding swept
swept_same file u v zero b p h = refl
swept_same file u v (suc k) b p h =
    rw (h b (omega arith) (omega arith)) (swept_same file u v k (suc b) (passed file (v b) b p) (λ x l m. h x (omega arith) (omega arith)))

pub swept_add : (file : ℕ) (u : ℕ → Bool) (k l b : ℕ) (p : Progress) → swept file u (k + l) b p ≡ swept file u l (b + k) (swept file u k b p)
unfolding swept
swept_add file u zero l b p = let e : b + 0 ≡ b = omega arith in let f : 0 + l ≡ l = omega arith in rw (e, f)
swept_add file u (suc k) l b p =
    let e : b + suc k ≡ suc b + k = omega arith in
    let f : suc k + l ≡ suc (k + l) = omega arith in
    rw (e, f) (swept_add file u k l (suc b) (passed file (u b) b p))
