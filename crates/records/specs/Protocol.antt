-- Protocols (objc-runtime-new.h, protocol_t; document 01, Protocol; protocol.rs).
use Rattle.std.specs.Prelude.{ℕ, leb}
use Rattle.reads.specs.Outcome.{Outcome}
use Rattle.reads.specs.declared.place.Place.{Place}
use Rattle.pointers.specs.Tables.{Tables}
use Rattle.records.specs.Decode.{Decode, run, done, then, when, or0, sum64, readable, u32_in, slot, pointer, pointer_or0, string}
use Rattle.records.specs.Header.{protocol_size, protocol_mangled_name, protocol_protocols, protocol_instance_methods, protocol_class_methods, protocol_optional_instance_methods, protocol_optional_class_methods, protocol_instance_properties, protocol_own_size, protocol_flags, protocol_class_properties, protocol_size_with_class_properties}
use Rattle.records.specs.declared.protocol.ObjcProtocol.{ObjcProtocol}
use Rattle.records.specs.declared.protocol.ProtocolLists.{ProtocolLists}

-- _classProperties: its 8 bytes must be readable; or 0.
unfoldable pub decode_trailing : ℕ → Decode ℕ
decode_trailing va = then (sum64 va protocol_class_properties) (λ a. then (readable a 8) (λ p. or0 (slot a)))

abbrev pub trailing_at : Tables → ℕ → Outcome ℕ
trailing_at t va = run t (decode_trailing va)

-- It is there where the protocol's own size says so, else 0.
unfoldable pub decode_class_properties : ℕ → Place → Decode ℕ
decode_class_properties va p =
    then (u32_in p protocol_own_size) (λ size. when (leb protocol_size_with_class_properties size) (decode_trailing va) (done 0))

abbrev pub class_properties_at : Tables → ℕ → Place → Outcome ℕ
class_properties_at t va p = run t (decode_class_properties va p)

-- The lists of a protocol_t but its class properties; each or 0.
unfoldable pub decode_protocol_lists : ℕ → Decode ProtocolLists
decode_protocol_lists va =
    then (pointer_or0 va protocol_protocols) (λ protocols.
    then (pointer_or0 va protocol_instance_methods) (λ instance.
    then (pointer_or0 va protocol_class_methods) (λ class.
    then (pointer_or0 va protocol_optional_instance_methods) (λ optional.
    then (pointer_or0 va protocol_optional_class_methods) (λ optional_class.
    then (pointer_or0 va protocol_instance_properties) (λ properties.
    done (record { protocols = protocols; instance_methods = instance; class_methods = class; optional_instance_methods = optional; optional_class_methods = optional_class; instance_properties = properties })))))))

abbrev pub protocol_lists_at : Tables → ℕ → Outcome ProtocolLists
protocol_lists_at t va = run t (decode_protocol_lists va)

-- protocol_t: an absent name ends it, the other pointers are or 0; the name's text is read before _classProperties.
unfoldable pub decode_protocol : ℕ → Decode ObjcProtocol
decode_protocol va =
    then (readable va protocol_size) (λ p.
    then (pointer va protocol_mangled_name) (λ named.
    then (decode_protocol_lists va) (λ lists.
    then (u32_in p protocol_own_size) (λ size.
    then (u32_in p protocol_flags) (λ flags.
    then (string named) (λ name.
    then (decode_class_properties va p) (λ class_properties.
    done
    (record {
      address = va;
      name = name;
      protocols = lists.protocols;
      instance_methods = lists.instance_methods;
      class_methods = lists.class_methods;
      optional_instance_methods = lists.optional_instance_methods;
      optional_class_methods = lists.optional_class_methods;
      instance_properties = lists.instance_properties;
      class_properties = class_properties;
      size = size;
      flags = flags;
    }))))))))

abbrev pub protocol_at : Tables → ℕ → Outcome ObjcProtocol
protocol_at t va = run t (decode_protocol va)
