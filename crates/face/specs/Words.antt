-- Texts and records as the structs of words of the C face (include/objclist.h), field by field; where there is none, all words are 0.
use Rattle.std.specs.Prelude.{ℕ, Bool, true, false, not, eqb}
use Rattle.reads.specs.Outcome.{choose, text_of}
use Rattle.reads.specs.declared.text.Text.{Text}
use Rattle.reads.specs.declared.text.Reading.TheVariants.{Old, New}
use Rattle.pointers.specs.Tables.{reading_under}
use Rattle.pointers.specs.declared.setting.Setting.{Setting}
use Rattle.records.specs.declared.category.ObjcCategory.{ObjcCategory}
use Rattle.records.specs.declared.class.ClassRo.{ClassRo}
use Rattle.records.specs.declared.class.ObjcClass.{ObjcClass}
use Rattle.records.specs.declared.protocol.ObjcProtocol.{ObjcProtocol}
use Rattle.face.specs.declared.words.TextWords.{TextWords}
use Rattle.face.specs.declared.words.ClassWords.{ClassWords}
use Rattle.face.specs.declared.words.RoWords.{RoWords}
use Rattle.face.specs.declared.words.ProtocolWords.{ProtocolWords}
use Rattle.face.specs.declared.words.CategoryWords.{CategoryWords}

-- A yes as a word; a word as a yes: any but 0.
abbrev pub flag : Bool → ℕ
flag true = 1
flag false = 0

abbrev pub is_set : ℕ → Bool
is_set n = not (eqb n 0)

-- The reading that a word says: the new one by 0, the old one by any other.
unfoldable pub setting_in : ℕ → Setting
setting_in old = reading_under (choose (eqb old 0) New Old)

abbrev pub text : Text → TextWords
text t = record { file = t.file; offset = t.offset; len = t.len }

abbrev pub no_text : TextWords
no_text = text (text_of 0 0 0)

abbrev pub class : ObjcClass → ClassWords
class c =
    record {
      address = c.address;
      isa = c.isa;
      superclass_address = c.superclass_address;
      bits = c.bits;
      is_meta = flag c.is_meta;
    }

abbrev pub no_class : ClassWords
no_class = record { address = 0; isa = 0; superclass_address = 0; bits = 0; is_meta = 0 }

abbrev pub class_in : ClassWords → ObjcClass
class_in w =
    record {
      address = w.address;
      isa = w.isa;
      superclass_address = w.superclass_address;
      bits = w.bits;
      is_meta = is_set w.is_meta;
    }

abbrev pub class_ro : ClassRo → RoWords
class_ro ro =
    record {
      address = ro.address;
      flags = ro.flags;
      instance_start = ro.instance_start;
      instance_size = ro.instance_size;
      name = text ro.name;
      ivar_layout_address = ro.ivar_layout_address;
      methods = ro.methods;
      protocols = ro.protocols;
      ivars = ro.ivars;
      weak_ivar_layout_address = ro.weak_ivar_layout_address;
      properties = ro.properties;
    }

abbrev pub no_ro : RoWords
no_ro =
    record {
      address = 0;
      flags = 0;
      instance_start = 0;
      instance_size = 0;
      name = no_text;
      ivar_layout_address = 0;
      methods = 0;
      protocols = 0;
      ivars = 0;
      weak_ivar_layout_address = 0;
      properties = 0;
    }

abbrev pub protocol : ObjcProtocol → ProtocolWords
protocol p =
    record {
      address = p.address;
      name = text p.name;
      protocols = p.protocols;
      instance_methods = p.instance_methods;
      class_methods = p.class_methods;
      optional_instance_methods = p.optional_instance_methods;
      optional_class_methods = p.optional_class_methods;
      instance_properties = p.instance_properties;
      class_properties = p.class_properties;
      size = p.size;
      flags = p.flags;
    }

abbrev pub no_protocol : ProtocolWords
no_protocol =
    record {
      address = 0;
      name = no_text;
      protocols = 0;
      instance_methods = 0;
      class_methods = 0;
      optional_instance_methods = 0;
      optional_class_methods = 0;
      instance_properties = 0;
      class_properties = 0;
      size = 0;
      flags = 0;
    }

abbrev pub category : ObjcCategory → CategoryWords
category k =
    record {
      address = k.address;
      name = text k.name;
      class_address = k.class_address;
      instance_methods = k.instance_methods;
      class_methods = k.class_methods;
      protocols = k.protocols;
      instance_properties = k.instance_properties;
      class_properties = k.class_properties;
    }

abbrev pub no_category : CategoryWords
no_category =
    record {
      address = 0;
      name = no_text;
      class_address = 0;
      instance_methods = 0;
      class_methods = 0;
      protocols = 0;
      instance_properties = 0;
      class_properties = 0;
    }

abbrev pub category_in : CategoryWords → ObjcCategory
category_in w =
    record {
      address = w.address;
      name = text_of w.name.file w.name.offset w.name.len;
      class_address = w.class_address;
      instance_methods = w.instance_methods;
      class_methods = w.class_methods;
      protocols = w.protocols;
      instance_properties = w.instance_properties;
      class_properties = w.class_properties;
    }
