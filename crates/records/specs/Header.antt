-- objc-runtime-new.h: the size of each struct that is read, and the offsets of its fields by their names there.
use Rattle.std.specs.Prelude.{ℕ}

-- class_t, with isa at 0.
abbrev pub class_size : ℕ
class_size = 40

abbrev pub class_superclass : ℕ
class_superclass = 8

abbrev pub class_bits : ℕ
class_bits = 32

-- class_ro_t.
abbrev pub ro_size : ℕ
ro_size = 72

abbrev pub ro_flags : ℕ
ro_flags = 0

abbrev pub ro_instance_start : ℕ
ro_instance_start = 4

abbrev pub ro_instance_size : ℕ
ro_instance_size = 8

abbrev pub ro_ivar_layout : ℕ
ro_ivar_layout = 16

abbrev pub ro_name : ℕ
ro_name = 24

abbrev pub ro_base_methods : ℕ
ro_base_methods = 32

abbrev pub ro_base_protocols : ℕ
ro_base_protocols = 40

abbrev pub ro_ivars : ℕ
ro_ivars = 48

abbrev pub ro_weak_ivar_layout : ℕ
ro_weak_ivar_layout = 56

abbrev pub ro_base_properties : ℕ
ro_base_properties = 64

-- protocol_t up to its flags; _classProperties, behind them, is there where size says so.
abbrev pub protocol_size : ℕ
protocol_size = 72

abbrev pub protocol_mangled_name : ℕ
protocol_mangled_name = 8

abbrev pub protocol_protocols : ℕ
protocol_protocols = 16

abbrev pub protocol_instance_methods : ℕ
protocol_instance_methods = 24

abbrev pub protocol_class_methods : ℕ
protocol_class_methods = 32

abbrev pub protocol_optional_instance_methods : ℕ
protocol_optional_instance_methods = 40

abbrev pub protocol_optional_class_methods : ℕ
protocol_optional_class_methods = 48

abbrev pub protocol_instance_properties : ℕ
protocol_instance_properties = 56

abbrev pub protocol_own_size : ℕ
protocol_own_size = 64

abbrev pub protocol_flags : ℕ
protocol_flags = 68

abbrev pub protocol_class_properties : ℕ
protocol_class_properties = 88

abbrev pub protocol_size_with_class_properties : ℕ
protocol_size_with_class_properties = 96

-- category_t, with its name at 0; the wider one ends in _classProperties.
abbrev pub category_size : ℕ
category_size = 48

abbrev pub category_size_with_class_properties : ℕ
category_size_with_class_properties = 56

abbrev pub category_cls : ℕ
category_cls = 8

abbrev pub category_instance_methods : ℕ
category_instance_methods = 16

abbrev pub category_class_methods : ℕ
category_class_methods = 24

abbrev pub category_protocols : ℕ
category_protocols = 32

abbrev pub category_instance_properties : ℕ
category_instance_properties = 40

abbrev pub category_class_properties : ℕ
category_class_properties = 48

-- entsize_list_tt: the header in front of a list's entries.
abbrev pub list_size : ℕ
list_size = 8

abbrev pub list_entsize_and_flags : ℕ
list_entsize_and_flags = 0

abbrev pub list_count : ℕ
list_count = 4

-- protocol_list_t: the header in front of its slots.
abbrev pub protocol_list_size : ℕ
protocol_list_size = 8

abbrev pub protocol_list_count : ℕ
protocol_list_count = 0

-- method_t::big, with its name (a selector) at 0.
abbrev pub method_size : ℕ
method_size = 24

abbrev pub method_types : ℕ
method_types = 8

abbrev pub method_imp : ℕ
method_imp = 16

-- method_t::small: three relative pointers.
abbrev pub small_method_size : ℕ
small_method_size = 12

abbrev pub small_method_name : ℕ
small_method_name = 0

abbrev pub small_method_types : ℕ
small_method_types = 4

abbrev pub small_method_imp : ℕ
small_method_imp = 8

-- ivar_t, with its offset pointer at 0.
abbrev pub ivar_size : ℕ
ivar_size = 32

abbrev pub ivar_name : ℕ
ivar_name = 8

abbrev pub ivar_type : ℕ
ivar_type = 16

abbrev pub ivar_alignment_raw : ℕ
ivar_alignment_raw = 24

abbrev pub ivar_own_size : ℕ
ivar_own_size = 28

-- property_t, with its name at 0.
abbrev pub property_size : ℕ
property_size = 16

abbrev pub property_attributes : ℕ
property_attributes = 8
