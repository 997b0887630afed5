-- The classes of an image as rows of the result buffer whose chains are followed (note 9).
use Rattle.std.specs.Prelude.{ℕ, ◌*◌, ◌≤◌, ◌<◌, ◌≡◌, false, List, length, get_or}
use Rattle.reads.specs.Outcome.{value}
use Rattle.pointers.specs.Tables.{Tables}
use Rattle.records.specs.Class.{class_at}
use Rattle.records.specs.declared.class.ObjcClass.{ObjcClass}
use Rattle.ancestry.specs.Chain.{looping}
use Rattle.ancestry.specs.Ancestry.{up_in, limit, ancestry_of}
use Rattle.ancestry.specs.Doubling.{node_at, Ground}
use Rattle.ancestry.specs.declared.class_chain.Ancestry.{Ancestry}

abbrev pub ground_of : Tables → List ℕ → ℕ → Ground
ground_of t out listed = record { up = up_in t; node = λ i. node_at out i; limit = limit t; listed = listed }

-- What `first` needs of row i: a class decodes at its address.
pub record Ready (t : Tables) (out : List ℕ) (listed i : ℕ) : Type 0 where
  pub row : i < listed
  pub class : ObjcClass
  pub decoded : class_at t (node_at out i) false ≡ value class

-- Rows with the addresses of classes that decode, and what each class alone is told.
pub record Unfollowed (t : Tables) (listed : ℕ) (out : List ℕ) : Type 0 where
  pub told : List Ancestry
  pub size : length told ≡ listed
  pub room : listed * 3 ≤ length out
  pub class : (i : ℕ) → i < listed → (c : ObjcClass) × (class_at t (node_at out i) false ≡ value c)
  pub alone : (i : ℕ) → i < listed → ancestry_of t (node_at out i) ≡ value (get_or told i looping)
