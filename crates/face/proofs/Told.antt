-- What is missing, in words.
use mathlib.Core.Path.{◌≡◌, refl}
use Rattle.reads.specs.Answer.{missed}
use Rattle.reads.specs.declared.answer.Missing.{Missing}
use Rattle.reads.specs.declared.answer.Missing.TheVariants.{Absent, Refused}
use Rattle.face.specs.Status.{says_missing, says, words_or}
use Rattle.walks.specs.Sections.{decoded_step}

pub says_missed : (A : Type 0) (m : Missing) → says (decoded_step (missed {A = A} m)) ≡ says_missing m
says_missed A (Absent r) = refl
says_missed A (Refused k) = refl

pub words_missed : {A W : Type 0} (none : W) (words : A → W) (m : Missing) → words_or none words (decoded_step (missed m)) ≡ none
words_missed none words (Absent r) = refl
words_missed none words (Refused k) = refl
