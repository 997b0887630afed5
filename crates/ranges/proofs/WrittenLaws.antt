-- What is put out, as words, and the answer.
use Prim.Native.Nat.{ℕ, suc, ◌+◌, ◌-◌, ◌*◌, ◌/◌, ◌^◌, ◌≤◌, ◌<◌, min}
use mathlib.Core.Path.{◌≡◌, refl, sym, ap, ◌∙◌}
use mathlib.Core.List.{List, [], ◌∷◌, ◌++◌}
use native.Mathlib.Omega.{arith}
use lib.ListN.{length, set, drop, length-set}
use lib.Seq.{sets, sets-eq}
use borrow.Author.Tests.{lt-ltb, le-leb, lt-leb, leb-true, leb-false}
use Rattle.reads.specs.Answer.{answered}
use Rattle.reads.specs.Outcome.{value, refused, choose}
use Rattle.reads.specs.declared.answer.Question.{Question}
use Rattle.reads.proofs.Tests.{by_choose}
use Rattle.ranges.specs.Range.{Range, range_words}
use Rattle.ranges.specs.Sweep.{more, Output, output, put_at, tell}
use Rattle.ranges.specs.Written.{Settled, result, result_of, room_for, written}
use Rattle.std.specs.Prelude.{Result, Ok, Err}
use Rattle.reads.specs.declared.answer.Question.TheVariants.{RangeRoom}

pub room_some : (n : ℕ) (out : List ℕ) → n ≤ length out / 3 → value n ≡ room_for n out
unfolding room_for choose
room_some n out h = rw (le-leb (n * 3) (length out) (omega arith)) refl

pub room_none : (n : ℕ) (out : List ℕ) → length out / 3 < n → refused RangeRoom ≡ room_for n out
unfolding room_for choose
room_none n out h = rw (lt-leb (n * 3) (length out) (omega arith)) refl

words_length : (rs : List Range) → length (range_words rs) ≡ length rs * 3
unfolding range_words
words_length [] = refl
words_length (r ∷ rs) = let ih = words_length rs in omega arith

-- How many are counted: all, up to the greatest word.
tell_count : (rs : List Range) (o : Output) → o.count < 2 ^ 64 → (tell rs o).count ≡ min (o.count + length rs) (2 ^ 64 - 1)
unfolding tell more
tell_count [] o h = omega arith
tell_count (r ∷ rs) o h = tell_count rs (output (min (suc o.count) (2 ^ 64 - 1)) (put_at o.words o.count r)) (omega arith) ∙ omega arith

put_in : (out : List ℕ) (i : ℕ) (r : Range) → suc i * 3 ≤ length out
    → put_at out i r ≡ set (set (set out (i * 3) r.file) (suc (i * 3)) r.offset) (suc (suc (i * 3))) r.len
unfolding put_at choose
put_in out i r h =
    let e : i * 3 + 1 ≡ suc (i * 3) = omega arith in
    let d : i * 3 + 2 ≡ suc (suc (i * 3)) = omega arith in
    rw (lt-ltb i (length out / 3) (omega arith), e, d) refl

-- With room for all, their words stand one after another.
tell_sets : (rs : List Range) (i : ℕ) (out : List ℕ) → (i + length rs) * 3 ≤ length out → length out < 2 ^ 64
    → (tell rs (output i out)).words ≡ sets out (i * 3) (range_words rs)
unfolding tell range_words
tell_sets [] i out h l = refl
tell_sets (r ∷ rs) i out h l =
    let e : suc i * 3 ≡ suc (suc (suc (i * 3))) = omega arith in
    let next : more i ≡ suc i = unfold more in omega arith in
    let put = set (set (set out (i * 3) r.file) (suc (i * 3)) r.offset) (suc (suc (i * 3))) r.len in
    let long : length put ≡ length out = simp length-set refl in
    ap (λ ws. (tell rs (output (more i) ws)).words) (put_in out i r (omega arith))
    ∙ ap (λ n. (tell rs (output n put)).words) next
    ∙ tell_sets rs (suc i) put (omega (arith, long)) (omega (arith, long))
    ∙ ap (λ n. sets put n (range_words rs)) e

tell_words : (rs : List Range) (out : List ℕ) → length rs * 3 ≤ length out → length out < 2 ^ 64
    → (tell rs (output 0 out)).words ≡ range_words rs ++ drop (length rs * 3) out
tell_words rs out h b =
    let l = words_length rs in
    let end : 0 + length (range_words rs) ≡ length rs * 3 = omega arith in
    tell_sets rs 0 out (omega arith) b ∙ sets-eq (range_words rs) out 0 (omega arith) ∙ ap (λ n. range_words rs ++ drop n out) end

-- Two rounds: the first counts, and writes into no buffer that is lent; the second writes, if there is room.
module _ (rs : List Range) (out none left : List ℕ) (count : ℕ) (counted : output count left ≡ tell rs (output 0 none)) (long : length out < 2 ^ 64) where
  all_counted : count ≡ min (length rs) (2 ^ 64 - 1)
  all_counted = ap (λ o. o.count) counted ∙ tell_count rs (output 0 none) (omega arith) ∙ omega arith

  pub written_none : (a : Result ℕ Question) (k : Question) → answered a ≡ room_for count out → a ≡ Err k → result_of a out ≡ written rs out
  unfolding written
  written_none a k e d =
      by_choose (λ r. result_of a out ≡ r)
      (λ t. let l = leb-true (length rs * 3) (length out) t in
      a_value count k (sym (ap answered d) ∙ e ∙ sym (room_some count out (omega (arith, all_counted)))))
      (λ t. let l = leb-false (length rs * 3) (length out) t in ap (λ o. result o out) (e ∙ sym (room_none count out (omega (arith, all_counted)))))
    where
      a_value : (n : ℕ) (k : Question) {x y : Settled} → refused k ≡ value n → x ≡ y
      a_value n k i = cc

  pub written_all : (a : Result ℕ Question) (n : ℕ) (c' : ℕ) (out' : List ℕ) → answered a ≡ room_for count out → a ≡ Ok n
      → output c' out' ≡ tell rs (output 0 out) → result_of a out' ≡ written rs out
  unfolding written
  written_all a n c' out' e d w =
      by_choose (λ r. result_of a out' ≡ r)
      (λ t. let l = leb-true (length rs * 3) (length out) t in
      let same : count ≡ length rs = omega (arith, all_counted) in
      let told : out' ≡ range_words rs ++ drop (length rs * 3) out = ap (λ o. o.words) w ∙ tell_words rs out l long in
      ap (λ o. result o out') (e ∙ sym (room_some count out (omega (arith, all_counted))) ∙ ap value same) ∙ ap (result (value (length rs))) told)
      (λ t. let l = leb-false (length rs * 3) (length out) t in
      is_number n (sym (ap answered d) ∙ e ∙ sym (room_none count out (omega (arith, all_counted)))))
    where
      is_number : (k : ℕ) {x y : Settled} → value k ≡ refused RangeRoom → x ≡ y
      is_number k i = cc
