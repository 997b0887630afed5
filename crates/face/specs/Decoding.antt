-- The answers of the C face about one record: what it says first, and the record's words.
use Rattle.reads.specs.Outcome.{Outcome}
use Rattle.reads.specs.declared.text.Text.{Text}
use Rattle.walks.specs.Sections.{Step}
use Rattle.records.specs.declared.category.ObjcCategory.{ObjcCategory}
use Rattle.records.specs.declared.class.ClassRo.{ClassRo}
use Rattle.records.specs.declared.class.ObjcClass.{ObjcClass}
use Rattle.records.specs.declared.protocol.ObjcProtocol.{ObjcProtocol}
use Rattle.face.specs.Status.{says, words_or}
use Rattle.face.specs.Words.{text, no_text, class, no_class, class_ro, no_ro, protocol, no_protocol, category, no_category}
use Rattle.face.specs.declared.decoding.ClassTold.{ClassTold}
use Rattle.face.specs.declared.decoding.RoTold.{RoTold}
use Rattle.face.specs.declared.decoding.ProtocolTold.{ProtocolTold}
use Rattle.face.specs.declared.decoding.CategoryTold.{CategoryTold}
use Rattle.face.specs.declared.decoding.NameTold.{NameTold}

abbrev pub class_told : Outcome (Step ObjcClass) → ClassTold
class_told o = record { status = says o; cls = words_or no_class class o }

abbrev pub ro_told : Outcome (Step ClassRo) → RoTold
ro_told o = record { status = says o; ro = words_or no_ro class_ro o }

abbrev pub protocol_told : Outcome (Step ObjcProtocol) → ProtocolTold
protocol_told o = record { status = says o; protocol = words_or no_protocol protocol o }

abbrev pub category_told : Outcome (Step ObjcCategory) → CategoryTold
category_told o = record { status = says o; category = words_or no_category category o }

abbrev pub name_told : Outcome (Step Text) → NameTold
name_told o = record { status = says o; name = words_or no_text text o }
