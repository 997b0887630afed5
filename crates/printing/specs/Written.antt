-- The text of a listing, handed to a writer piece by piece, of at most so many bytes each. No definition says what a writer does with it: whether a
-- write failed is its answer.
use Rattle.std.specs.Prelude.{ℕ, ◌≡◌, List, [], ◌++◌, take, drop}
use Rattle.pointers.specs.Tables.{Tables}
use Rattle.printing.specs.Pieces.{Standing, to_come, past, in_front}

-- From the standing p and the buffer b on: the text that was handed over, where the printing then stands, and what the buffer then holds. After each
-- piece the rest is still to come.
pub data HandsOver (size : ℕ) (t : Tables) (p : Standing) (b : List ℕ) : List ℕ → Standing → List ℕ → Type 0 where
  begins : HandsOver size t p b [] p b
  hands : {text c : List ℕ} {q : Standing} → HandsOver size t p b text q c → to_come t (past t q size) ≡ drop size (to_come t q)
      → HandsOver size t p b (text ++ take size (to_come t q)) (past t q size) (in_front (take size (to_come t q)) c)

pub record HandedOver (size : ℕ) (t : Tables) (p : Standing) (b : List ℕ) (q : Standing) (c : List ℕ) : Type 0 where
  pub text : List ℕ
  pub pieces : HandsOver size t p b text q c
