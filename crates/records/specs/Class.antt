-- Classes (objc-runtime-new.h, class_t and class_ro_t; document 01, Class; class.rs). The order of the lookups is the Rust's.
use Rattle.std.specs.Prelude.{ℕ, ◌+◌, ◌-◌, ◌%◌, Bool, ◌||◌}
use Rattle.pointers.specs.ImageInfo.{bit}
use Rattle.reads.specs.Outcome.{Outcome}
use Rattle.reads.specs.declared.text.Text.{Text}
use Rattle.pointers.specs.Tables.{Tables}
use Rattle.records.specs.Decode.{Decode, run, done, then, else, else_first, or0, sum64, nonzero, readable, u32_in, u64_at, picked, picked_at, slot, rebase, pointer, pointer_or0, string, symbol}
use Rattle.records.specs.Header.{class_size, class_superclass, class_bits, ro_size, ro_flags, ro_instance_start, ro_instance_size, ro_ivar_layout, ro_name, ro_base_methods, ro_base_protocols, ro_ivars, ro_weak_ivar_layout, ro_base_properties}
use Rattle.records.specs.declared.class.ObjcClass.{ObjcClass}
use Rattle.records.specs.declared.class.ClassRo.{ClassRo}
use Rattle.records.specs.declared.class.RoLists.{RoLists}

-- The data address without its low three bits, and the three of the stored word.
unfoldable pub bits_of : ℕ → ℕ → ℕ
bits_of target raw = target - target % 8 + raw % 8

-- The data address: the rebase target of the bits word, else the pick of the stored word.
unfoldable pub decode_data : ℕ → ℕ → Decode ℕ
decode_data a raw = else (rebase a) (picked raw)

abbrev pub data_at : Tables → ℕ → ℕ → Outcome ℕ
data_at t a raw = run t (decode_data a raw)

-- class_t: isa and superclass, both or 0; the bits word. Both field addresses are tested before the first lookup.
unfoldable pub decode_class : ℕ → Bool → Decode ObjcClass
decode_class va meta =
    then (readable va class_size) (λ p.
    then (sum64 va class_superclass) (λ super.
    then (sum64 va class_bits) (λ bits.
    then (or0 (slot va)) (λ isa.
    then (or0 (slot super)) (λ superclass.
    then (u64_at bits) (λ raw.
    then (or0 (decode_data bits raw)) (λ target.
    done (record { address = va; isa = isa; superclass_address = superclass; bits = bits_of target raw; is_meta = meta }))))))))

abbrev pub class_at : Tables → ℕ → Bool → Outcome ObjcClass
class_at t va meta = run t (decode_class va meta)

-- What stands behind the name of a class_ro_t: its lists, and the weak ivar layout among them; each or 0.
unfoldable pub decode_ro_lists : ℕ → Decode RoLists
decode_ro_lists va =
    then (pointer_or0 va ro_base_methods) (λ methods.
    then (pointer_or0 va ro_base_protocols) (λ protocols.
    then (pointer_or0 va ro_ivars) (λ ivars.
    then (pointer_or0 va ro_weak_ivar_layout) (λ weak.
    then (pointer_or0 va ro_base_properties) (λ properties.
    done (record { methods = methods; protocols = protocols; ivars = ivars; weak_ivar_layout = weak; properties = properties }))))))

abbrev pub ro_lists_at : Tables → ℕ → Outcome RoLists
ro_lists_at t va = run t (decode_ro_lists va)

-- class_ro_t: an absent name ends it, the other pointers are or 0.
unfoldable pub decode_class_ro : ℕ → Decode ClassRo
decode_class_ro va =
    then (readable va ro_size) (λ p.
    then (u32_in p ro_flags) (λ flags.
    then (u32_in p ro_instance_start) (λ start.
    then (u32_in p ro_instance_size) (λ size.
    then (pointer_or0 va ro_ivar_layout) (λ layout.
    then (pointer va ro_name) (λ named.
    then (decode_ro_lists va) (λ lists.
    then (string named) (λ name.
    done
    (record {
      address = va;
      flags = flags;
      instance_start = start;
      instance_size = size;
      name = name;
      ivar_layout_address = layout;
      methods = lists.methods;
      protocols = lists.protocols;
      ivars = lists.ivars;
      weak_ivar_layout_address = lists.weak_ivar_layout;
      properties = lists.properties;
    })))))))))

abbrev pub class_ro_at : Tables → ℕ → Outcome ClassRo
class_ro_at t va = run t (decode_class_ro va)

-- ObjcClass::ro picks again, from the bits of the class.
unfoldable pub decode_ro_of : ObjcClass → Decode ClassRo
decode_ro_of c = then (picked c.bits) decode_class_ro

abbrev pub ro_of : Tables → ObjcClass → Outcome ClassRo
ro_of t c = run t (decode_ro_of c)

-- The class_ro_t of the bits word in a slot: a rebase target is not picked from.
unfoldable pub decode_ro_data : ℕ → Decode ℕ
decode_ro_data a = else (rebase a) (picked_at a)

abbrev pub ro_data_at : Tables → ℕ → Outcome ℕ
ro_data_at t a = run t (decode_ro_data a)

-- decode_class_name does not pick from a rebase target.
unfoldable pub decode_class_name : ℕ → Decode Text
decode_class_name va =
    then (readable va class_size) (λ p.
    then (sum64 va class_bits) (λ bits.
    then (decode_ro_data bits) (λ ro.
    then (pointer ro ro_name) string)))

abbrev pub class_name_at : Tables → ℕ → Outcome Text
class_name_at t va = run t (decode_class_name va)

-- The name of the class that a slot at +8 of a record holds: the decoded name of a class that is not 0, else the bind of the slot less its
-- prefix. Where both are absent the reason is the decoded name's: that of the bind explains nothing.
unfoldable pub decode_nonzero_class_name : ℕ → Decode Text
decode_nonzero_class_name class = then (nonzero class) decode_class_name

abbrev pub decoded_name : Tables → ℕ → Outcome Text
decoded_name t class = run t (decode_nonzero_class_name class)

-- The bind of the slot at +8, where both class_t.superclass and category_t.cls stand.
unfoldable pub decode_bound_name : ℕ → Decode Text
decode_bound_name address = then (sum64 address class_superclass) symbol

abbrev pub bound_name : Tables → ℕ → Outcome Text
bound_name t address = run t (decode_bound_name address)

unfoldable pub decode_class_name_of : ℕ → ℕ → Decode Text
decode_class_name_of address class = else_first (decode_nonzero_class_name class) (decode_bound_name address)

abbrev pub class_name_of : Tables → ℕ → ℕ → Outcome Text
class_name_of t address class = run t (decode_class_name_of address class)

abbrev pub superclass_name : Tables → ObjcClass → Outcome Text
superclass_name t c = class_name_of t c.address c.superclass_address

-- The three flags in the bits of a class.
unfoldable pub fast_flags : ℕ → ℕ
fast_flags bits = bits % 8

-- Either Swift flag, bits 0 and 1.
unfoldable pub is_swift : ℕ → Bool
is_swift bits = bit 0 bits || bit 1 bits
