-- Categories (objc-runtime-new.h, category_t; document 01, Category; category.rs).
use Rattle.std.specs.Prelude.{ℕ, Bool}
use Rattle.reads.specs.Outcome.{Outcome, choose}
use Rattle.reads.specs.declared.text.Text.{Text}
use Rattle.pointers.specs.Tables.{Tables}
use Rattle.pointers.specs.ImageInfo.{bit}
use Rattle.records.specs.Decode.{Decode, run, done, then, when, readable, slot, pointer_or0, string, info}
use Rattle.records.specs.Header.{category_size, category_size_with_class_properties, category_cls, category_instance_methods, category_class_methods, category_protocols, category_instance_properties, category_class_properties}
use Rattle.records.specs.Class.{class_name_of}
use Rattle.records.specs.declared.category.ObjcCategory.{ObjcCategory}
use Rattle.records.specs.declared.category.CategoryLists.{CategoryLists}

-- _classProperties where the image has the field; or 0.
unfoldable pub decode_category_properties : ℕ → Bool → Decode ℕ
decode_category_properties va wide = when wide (pointer_or0 va category_class_properties) (done 0)

abbrev pub category_properties_at : Tables → ℕ → Bool → Outcome ℕ
category_properties_at t va wide = run t (decode_category_properties va wide)

-- The lists of a category_t but its class properties; each or 0.
unfoldable pub decode_category_lists : ℕ → Decode CategoryLists
decode_category_lists va =
    then (pointer_or0 va category_instance_methods) (λ instance.
    then (pointer_or0 va category_class_methods) (λ class_methods.
    then (pointer_or0 va category_protocols) (λ protocols.
    then (pointer_or0 va category_instance_properties) (λ properties.
    done (record { instance_methods = instance; class_methods = class_methods; protocols = protocols; instance_properties = properties })))))

abbrev pub category_lists_at : Tables → ℕ → Outcome CategoryLists
category_lists_at t va = run t (decode_category_lists va)

-- category_t, wider where it has the field for class properties: an absent name ends it, the other pointers are or 0.
unfoldable pub decode_category_of : ℕ → Bool → Decode ObjcCategory
decode_category_of va wide =
    then (readable va (choose wide category_size_with_class_properties category_size)) (λ p.
    then (slot va) (λ named.
    then (pointer_or0 va category_cls) (λ class.
    then (decode_category_lists va) (λ lists.
    then (decode_category_properties va wide) (λ class_properties.
    then (string named) (λ name.
    done
    (record {
      address = va;
      name = name;
      class_address = class;
      instance_methods = lists.instance_methods;
      class_methods = lists.class_methods;
      protocols = lists.protocols;
      instance_properties = lists.instance_properties;
      class_properties = class_properties;
    })))))))

abbrev pub category_of : Tables → ℕ → Bool → Outcome ObjcCategory
category_of t va wide = run t (decode_category_of va wide)

-- Bit 6 of the image info's flags says whether categories have the field.
unfoldable pub decode_category : ℕ → Decode ObjcCategory
decode_category va = then info (λ i. decode_category_of va (bit 6 i.flags))

abbrev pub category_at : Tables → ℕ → Outcome ObjcCategory
category_at t va = run t (decode_category va)

abbrev pub category_class_name : Tables → ObjcCategory → Outcome Text
category_class_name t c = class_name_of t c.address c.class_address
