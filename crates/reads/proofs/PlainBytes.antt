-- Plain bytes: a pass over a text goes on behind each of them, and so it does over eight at a time.
use Rattle.std.proofs.Common.{◌≡◌, ℕ, zero, suc, ◌+◌, ◌-◌, ◌<◌, ◌≤◌, Bool, true, false, ltb, List, [], length, get_or, take, drop, sym, refl, ap, ◌∙◌, subst, arith, length-drop, length-take, ltb-true, lt-ltb}
use native.Mathlib.Decide.{dec_le}
use Rattle.std.proofs.lemmas.List.{get_or-take, get_or-drop}
use Rattle.reads.specs.Outcome.{choose}
use Rattle.reads.specs.Pass.{byte_after, plain, onward, of_eight, good_scan, PlainTo, Skipped}
use Rattle.reads.specs.Text.{scan_of}
use Rattle.reads.specs.declared.text.ByteRead.{ByteRead}
use Rattle.reads.proofs.Tests.{both_true, by_choose}
use Rattle.reads.proofs.Passes.{Left, read_there, read_of_all, stands_inside, counts, left_ascii}
use Rattle.reads.proofs.Texts.{scan_good}

-- The tests of a plain byte.
module _ (b : ByteRead) where
  plain_above : plain b ≡ true → 0 < b.byte
  plain_above p = ltb-true 0 b.byte (both_true (ltb 0 b.byte) (ltb b.byte 0x80) p).0

  plain_below : plain b ≡ true → b.byte < 0x80
  plain_below p = ltb-true b.byte 0x80 (both_true (ltb 0 b.byte) (ltb b.byte 0x80) p).1

  -- A byte that is neither plain nor zero begins a character of more than one byte.
  pub high : plain b ≡ false → 0 < b.byte → 0x80 ≤ b.byte
  high p a =
      elim (dec_le 0x80 b.byte) [
        | yes h ↦ h
        | no f ↦
            let t : plain b ≡ true = simp (lt-ltb 0 b.byte a, lt-ltb b.byte 0x80 (omega arith)) in
            let z : ◌≡◌ {A = ℕ} 0 1 = cc in
            absurd (omega arith)
      ]

-- At a plain byte.
module _ (s : List ℕ) (i : ℕ) (p : plain (byte_after s i) ≡ true) where
  plain_there : i < length s
  plain_there = stands_inside s i (λ z. omega (arith, plain_above (byte_after s i) p))

  plain_left : {z : Bool} → Left z s [] i → Left z s [] (suc i)
  plain_left {z} l =
      subst (Left z s []) (read_there s i plain_there)
      (left_ascii l refl plain_there (counts z (get_or s i 0) (λ e. omega (arith, plain_above (byte_after s i) p)))
      (plain_below (byte_after s i) p))

  plain_on : {from : ℕ} → PlainTo s from i → PlainTo s from (suc i)
  plain_on {from} r =
      record {
        ahead = omega (arith, r.ahead);
        within = plain_there;
        each = λ k a h.
            elim (dec_le i k) [
              | yes b ↦ let same : i ≡ k = omega arith in subst (λ (j : ℕ). plain (byte_after s j) ≡ true) same p
              | no f ↦ r.each k a (omega arith)
            ];
      }

-- Behind plain bytes.
left_run : {z : Bool} {s : List ℕ} (n : ℕ) {i : ℕ} → Left z s [] i → ((k : ℕ) → i ≤ k → k < i + n → plain (byte_after s k) ≡ true)
    → Left z s [] (i + n)
left_run {z} {s} zero {i} l p = let same : i ≡ i + 0 = omega arith in subst (Left z s []) same l
left_run {z} {s} (suc n) {i} l p =
    let same : suc i + n ≡ i + suc n = omega arith in
    subst (Left z s []) same (left_run n (plain_left s i (p i (omega arith) (omega arith)) l) (λ k a h. p k (omega arith) (omega arith)))

pub left_skipped : {z : Bool} {s : List ℕ} {i : ℕ} {b : ByteRead} → Left z s [] i → Skipped s i b → Left z s [] b.at
left_skipped {z} {s} {i} {b} l k =
    let same : i + (b.at - i) ≡ b.at = omega (arith, k.run.ahead) in
    subst (Left z s []) same (left_run (b.at - i) l (λ j a h. k.run.each j a (omega arith)))

pub left_none : (z : Bool) (s : List ℕ) → Left z s [] 0
left_none z s = record { within = omega arith; long = omega arith; judged = refl }

-- Where the byte b was read at i.
pub left_byte : {z : Bool} {s : List ℕ} {i : ℕ} {b : ByteRead} → b ≡ byte_after s i → Left z s [] i → (b ≡ byte_after s b.at) × Left z s [] b.at
left_byte {z} {s} e l = subst (λ (b : ByteRead). (b ≡ byte_after s b.at) × Left z s [] b.at) (sym e) (refl, l)

-- The byte b, at its offset.
module _ (s : List ℕ) {b : ByteRead} (e : b ≡ byte_after s b.at) (p : plain b ≡ true) where
  here : plain (byte_after s b.at) ≡ true
  here = sym (ap plain e) ∙ p

  pub plain_read : b.read ≡ suc b.at
  plain_read = ap (λ (x : ByteRead). x.read) e ∙ read_there s b.at (plain_there s b.at here)

  pub plain_behind : {z : Bool} → Left z s [] b.at → Left z s [] b.read
  plain_behind {z} l = subst (Left z s []) (sym plain_read) (plain_left s b.at here l)

-- A pass that has come to a plain byte goes on behind it, and so does one over what is left there.
pub run_behind : {s : List ℕ} {from : ℕ} {b : ByteRead} → Skipped s from b → plain b ≡ true → PlainTo s from b.read
run_behind {s} {from} {b} k p = subst (PlainTo s from) (sym (plain_read s k.is p)) (plain_on s b.at (here s k.is p) k.run)

pub skipped_on : {s : List ℕ} {from i : ℕ} {b : ByteRead} → PlainTo s from i → Skipped s i b → Skipped s from b
skipped_on {s} {from} {i} r k =
    record {
      is = k.is;
      run = record {
        ahead = omega (arith, r.ahead, k.run.ahead);
        within = k.run.within;
        each = λ j a h. elim (dec_le i j) [ yes b ↦ k.run.each j b h | no f ↦ r.each j a (omega arith) ];
      };
    }

-- A pass has come to the byte at which it begins; one over a text that is begun, to the first.
pub skipped_here : {s : List ℕ} {i : ℕ} {b : ByteRead} → i ≤ length s → b ≡ byte_after s i → Skipped s i b
skipped_here {s} {i} h e =
    subst (Skipped s i) (sym e)
    record { is = refl; run = record { ahead = omega arith; within = h; each = λ k a l. absurd (omega arith) } }

pub first_skipped : {s : List ℕ} {b : ByteRead} → b ≡ byte_after s 0 → Skipped s 0 b
first_skipped e = skipped_here (omega arith) e

-- A pass goes on over a plain byte and stays at another.
onward_skipped : {s : List ℕ} {from : ℕ} {b c : ByteRead} → c ≡ onward s b → Skipped s from b → Skipped s from c
unfolding choose
onward_skipped {s} {from} {b} e k = subst (Skipped s from) (sym e) (go (plain b) refl)
  where
    go : (x : Bool) → plain b ≡ x → Skipped s from (choose x (byte_after s b.read) b)
    go true p = let r = run_behind k p in skipped_on r (skipped_here r.within refl)
    go false p = k

pub few_skipped : {s : List ℕ} {from : ℕ} {b c d e : ByteRead} → from ≤ length s → b ≡ byte_after s from → c ≡ onward s b → d ≡ onward s c
    → e ≡ onward s d → Skipped s from e
few_skipped h first second third fourth = onward_skipped fourth (onward_skipped third (onward_skipped second (skipped_here h first)))

-- Where only plain bytes came before the end, they are the text.
pub scan_ends : {s : List ℕ} {b : ByteRead} → Skipped s 0 b → b.byte ≡ 0 → good_scan b ≡ scan_of s
scan_ends {s} k z = scan_good (left_skipped (left_none true s) k) k.is z

-- A byte of the part from n on, in the whole.
abbrev pub moved : ℕ → ByteRead → ByteRead
moved n b = record { at = n + b.at; byte = b.byte; read = n + b.read }

-- The eight bytes t behind n bytes of s.
module _ (s : List ℕ) (n : ℕ) (h : n + 8 ≤ length s) where
  abbrev pub part : List ℕ
  part = take (n + 8 - n) (drop n s)

  part_length : length part ≡ 8
  part_length = simp (length-take, length-drop) (omega (arith, h))

  part_byte : (k : ℕ) → k < 8 → moved n (byte_after part k) ≡ byte_after s (n + k)
  unfolding choose
  part_byte k a =
      let b : get_or part k 0 ≡ get_or s (n + k) 0 = get_or-take (n + 8 - n) (drop n s) k 0 (omega arith) ∙ get_or-drop n s k 0 in
      let r : n + (byte_after part k).read ≡ (byte_after s (n + k)).read =
      ap (λ (x : ℕ). n + x) (read_there part k (omega (arith, part_length))) ∙ omega arith ∙ sym (read_there s (n + k) (omega arith)) in
      rw (b, r)

  -- The pass has come to b, at most k bytes behind n, over plain bytes.
  module _ (from : ℕ) where
    record Went (k : ℕ) (b : ByteRead) : Type 0 where
      pub low : b.at ≤ k
      pub is : moved n b ≡ byte_after s (n + b.at)
      pub run : PlainTo s from (n + b.at)

    went_first : PlainTo s from n → Went 0 (byte_after part 0)
    went_first r =
        let same : n ≡ n + 0 = omega arith in
        record { low = omega arith; is = part_byte 0 (omega arith); run = subst (PlainTo s from) same r }

    went_on : (k : ℕ) {b : ByteRead} → k < 7 → Went k b → Went (suc k) (onward part b)
    went_on k {b} a w =
        by_choose (Went (suc k))
        (λ p.
        let r : n + b.read ≡ suc (n + b.at) = plain_read s w.is p in
        record {
          low = omega (arith, r, w.low);
          is = part_byte b.read (omega (arith, r, w.low));
          run = run_behind record { is = w.is; run = w.run } p;
        })
        (λ p. record { low = omega (arith, w.low); is = w.is; run = w.run })

    went_eight : PlainTo s from n → Went 7 (of_eight part)
    went_eight l =
        went_on 6 (omega arith) (went_on 5 (omega arith) (went_on 4 (omega arith) (went_on 3 (omega arith) (went_on 2 (omega arith)
        (went_on 1 (omega arith) (went_on 0 (omega arith) (went_first l)))))))

    -- Of the eight behind a place that the pass came to.
    module _ (l : PlainTo s from n) {b : ByteRead} (e : b ≡ of_eight part) where
      went : Went 7 b
      went = subst (Went 7) (sym e) (went_eight l)

      pub eight_skipped : Skipped s from (moved n b)
      eight_skipped = record { is = went.is; run = went.run }

      pub eight_at : n + b.at ≤ length s
      eight_at = went.run.within

      pub eight_read : n + b.read ≤ length s
      eight_read = omega (arith, ap (λ (x : ByteRead). x.read) went.is ∙ read_of_all s (n + b.at) went.run.within)

      pub eight_on : plain b ≡ true → PlainTo s from (n + b.read)
      eight_on p = run_behind eight_skipped p

      pub eight_ahead : plain b ≡ true → n < n + b.read
      eight_ahead p = let r : n + b.read ≡ suc (n + b.at) = plain_read s went.is p in omega arith
