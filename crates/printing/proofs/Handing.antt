-- The text that was handed over and what is still to come are the text to come at the start; a writer that was handed the pieces holds it.
use Prim.Native.Nat.{ℕ, ◌-◌, ◌<◌}
use mathlib.Core.Path.{◌≡◌, refl, sym, ap, ◌∙◌, subst}
use mathlib.Core.List.{List, [], ◌++◌, append_assoc, append-nil}
use native.Mathlib.Omega.{arith}
use lib.ListN.{length, take, drop, take-append-drop}
use lib.Seq.{take_at}
use Rattle.std.proofs.Common.{Option, Result, Ok, Err, false, true≢false, is_err, OnOk}
use Rattle.std.specs.Io.KnownBytes.{Appends}
use Rattle.std.proofs.KnownBytes.{Appends-nil, Appends-trans}
use Rattle.pointers.specs.Tables.{Tables}
use Rattle.printing.specs.Pieces.{Standing, to_come, past, Handed, piece_of}
use Rattle.printing.specs.Written.{HandsOver, begins, hands, HandedOver}
use Rattle.printing.proofs.HandedOut.{piece_empty, nothing_left}

-- The bytes of a piece at the front of its buffer.
pub piece_text : (t : Tables) (p : Standing) (size : ℕ) (old : List ℕ) (x : Handed) → x ≡ piece_of t p size old
    → take (x.len - 0) (drop 0 x.bytes) ≡ take size (to_come t p)
unfolding piece_of
piece_text t p size old x e =
    ap (λ (y : Handed). take (y.len - 0) (drop 0 y.bytes)) e
    ∙ take_at (take size (to_come t p)) (drop (length (take size (to_come t p))) old) (length (take size (to_come t p)) - 0) (omega arith)

-- A write that did not fail.
pub wrote : {A E P : Type 0} (r : Result A E) → OnOk r P → is_err r ≡ false → P
wrote (Ok x) h e = h
wrote (Err x) h e = absurd (true≢false e)

module _ (size : ℕ) (t : Tables) (p : Standing) (b : List ℕ) where
  pub handed_more : (q : Standing) (c : List ℕ) → HandedOver size t p b q c → (x : Handed) → x ≡ piece_of t q size c
      → to_come t x.standing ≡ drop size (to_come t q) → HandedOver size t p b x.standing x.bytes
  unfolding piece_of
  handed_more q c h x e g =
      subst (λ (y : Handed). HandedOver size t p b y.standing y.bytes) (sym e)
      (record { text = h.text ++ take size (to_come t q); pieces = hands h.pieces (ap (λ (y : Handed). to_come t y.standing) (sym e) ∙ g) })

  pub text_so_far : {text c : List ℕ} {q : Standing} → HandsOver size t p b text q c → text ++ to_come t q ≡ to_come t p
  text_so_far begins = refl
  text_so_far (hands {text} {c} {q} h g) =
      append_assoc text (take size (to_come t q)) (to_come t (past t q size))
      ∙ ap (λ (rest : List ℕ). text ++ (take size (to_come t q) ++ rest)) g
      ∙ ap (λ (all : List ℕ). text ++ all) (take-append-drop size (to_come t q))
      ∙ text_so_far h

  -- Handed over to its end: the whole text.
  pub all_handed : {text c : List ℕ} {q : Standing} → HandsOver size t p b text q c → to_come t q ≡ [] → text ≡ to_come t p
  all_handed {text} h e = sym (append-nil text) ∙ ap (λ (rest : List ℕ). text ++ rest) (sym e) ∙ text_so_far h

  -- The same of a writer, which held `old` and then holds what it was handed.
  module _ (old : Option (List ℕ)) where
    pub record Held (now : Option (List ℕ)) (q : Standing) (c : List ℕ) : Type 0 where
      pub over : HandedOver size t p b q c
      pub held : Appends old now over.text

    pub held_none : Held old p b
    held_none = record { over = record { text = []; pieces = begins }; held = Appends-nil old }

    module _ (now : Option (List ℕ)) (q : Standing) (c : List ℕ) (h : Held now q c) (x : Handed) (e : x ≡ piece_of t q size c) where
      pub held_more : to_come t x.standing ≡ drop size (to_come t q) → (after : Option (List ℕ)) → Appends now after (take (x.len - 0) (drop 0 x.bytes))
          → Held after x.standing x.bytes
      unfolding piece_of
      held_more g after w =
          let more : Appends now after (take size (to_come t q)) = subst (Appends now after) (piece_text t q size c x e) w in
          subst (λ (y : Handed). Held after y.standing y.bytes) (sym e)
          (record {
            over = record { text = h.over.text ++ take size (to_come t q); pieces = hands h.over.pieces (ap (λ (y : Handed). to_come t y.standing) (sym e) ∙ g) };
            held = Appends-trans old now after h.over.text (take size (to_come t q)) h.held more;
          })

      -- A piece without a byte ends it: the writer holds the whole text, and nothing is still to come.
      pub held_end : to_come t x.standing ≡ drop size (to_come t q) → 0 < size → x.len ≡ 0
          → HandedOver size t p b x.standing x.bytes × (Appends old now (to_come t p) × (to_come t x.standing ≡ []))
      held_end g some none = (
        handed_more q c h.over x e g,
        (subst (Appends old now) (all_handed h.over.pieces (piece_empty t q size c x e some none)) h.held, nothing_left t q size c x e g some none),
      )
