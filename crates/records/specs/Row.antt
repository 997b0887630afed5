-- Rows of method, ivar and property lists (objc-runtime-new.h, method_t, ivar_t, property_t; document 01, Rows; method.rs, ivar.rs,
-- property.rs; alignments: note 8).
use Rattle.std.specs.Prelude.{ℕ, Bool, true, false, ◌||◌, eqb, leb, Option, Some, None}
use Rattle.std.specs.Int.Count.{count_trailing_zeros}
use Rattle.reads.specs.Outcome.{Outcome, choose}
use Rattle.reads.specs.Address.{stripped}
use Rattle.reads.specs.Relative.{signed32, relative}
use Rattle.reads.specs.declared.text.Text.{Text}
use Rattle.pointers.specs.Tables.{Tables}
use Rattle.records.specs.Decode.{Decode, run, done, then, else, or0, or_empty, sum64, nonzero, readable, u32_in, i32_in, slot, pointer, pointer_or0, string}
use Rattle.records.specs.Header.{method_size, method_types, method_imp, small_method_size, small_method_name, small_method_types, small_method_imp, ivar_size, ivar_name, ivar_type, ivar_alignment_raw, ivar_own_size, property_size, property_attributes}
use Rattle.records.specs.declared.row.Row.{Row}
use Rattle.records.specs.declared.row.Row.TheVariants as row
use Rattle.records.specs.declared.list.RowKind.{RowKind}
use Rattle.records.specs.declared.list.RowKind.TheVariants as rows
use Rattle.records.specs.declared.method.Method.{Method}
use Rattle.records.specs.declared.method.MethodKind.{MethodKind}
use Rattle.records.specs.declared.method.MethodKind.TheVariants as kind
use Rattle.records.specs.declared.method.Selectors.{Selectors}
use Rattle.records.specs.declared.method.Selectors.TheVariants.{Indirect, Direct}
use Rattle.records.specs.declared.method.SmallTexts.{SmallTexts}
use Rattle.records.specs.declared.ivar.Ivar.{Ivar}
use Rattle.records.specs.declared.property.Property.{Property}

abbrev pub method_of : Text → Text → Option ℕ → MethodKind → Method
method_of selector types implementation kind = record { selector = selector; types = types; implementation = implementation; kind = kind }

-- A legacy method's imp: 0 is none.
unfoldable pub legacy_imp : ℕ → Option ℕ
legacy_imp va = choose (eqb va 0) None (Some va)

-- method_t::big: name and types must resolve, imp or 0.
unfoldable pub decode_legacy_method : ℕ → Decode Method
decode_legacy_method va =
    then (readable va method_size) (λ p.
    then (slot va) (λ name.
    then (pointer va method_types) (λ typed.
    then (pointer_or0 va method_imp) (λ imp.
    then (string name) (λ selector.
    then (or_empty (string typed)) (λ types.
    done (method_of selector types (legacy_imp imp) kind.Legacy)))))))

abbrev pub legacy_method_at : Tables → ℕ → Outcome Method
legacy_method_at t va = run t (decode_legacy_method va)

-- A small method's imp, from its stored word and the address of its field: none exactly if the offset is 0, else masked to 48 bits.
unfoldable pub small_imp : ℕ → ℕ → Option ℕ
small_imp raw va = choose (eqb raw 0) None (Some (stripped (relative va (signed32 raw))))

-- The address of a small method's selector: its offset's target itself, or indirect, through one slot.
abbrev pub selector_from : Selectors → ℕ → Decode ℕ
selector_from Indirect target = slot target
selector_from Direct target = done target

abbrev pub small_kind : Selectors → MethodKind
small_kind Indirect = kind.SmallIndirect
small_kind Direct = kind.SmallDirect

unfoldable pub is_small : MethodKind → Bool
is_small kind.Legacy = false
is_small kind.SmallIndirect = true
is_small kind.SmallDirect = true

-- A small method's texts: the selector's, and the types' at their offset's target.
abbrev pub small_texts : Text → Text → SmallTexts
small_texts s t = record { selector = s; types = t }

unfoldable pub decode_small_texts : Selectors → ℕ → ℕ → Decode SmallTexts
decode_small_texts selectors target types_va =
    then (selector_from selectors target) (λ name_va.
    then (string name_va) (λ selector.
    then (or_empty (string types_va)) (λ types.
    done (small_texts selector types))))

abbrev pub small_texts_at : Tables → Selectors → ℕ → ℕ → Outcome SmallTexts
small_texts_at t selectors target types_va = run t (decode_small_texts selectors target types_va)

-- method_t::small: three offsets, each counted from its own field, which the Rust reads first; then the texts.
unfoldable pub decode_small_method : ℕ → Selectors → Decode Method
decode_small_method va selectors =
    then (readable va small_method_size) (λ p.
    then (i32_in p small_method_name) (λ name_offset.
    then (i32_in p small_method_types) (λ types_offset.
    then (u32_in p small_method_imp) (λ raw.
    then (sum64 va small_method_types) (λ types_field.
    then (sum64 va small_method_imp) (λ imp_field.
    then (decode_small_texts selectors (relative va name_offset) (relative types_field types_offset)) (λ texts.
    done (method_of texts.selector texts.types (small_imp raw imp_field) (small_kind selectors)))))))))

abbrev pub small_method_at : Tables → ℕ → Selectors → Outcome Method
small_method_at t va selectors = run t (decode_small_method va selectors)

-- An ivar's alignment: 0xFFFFFFFF gives 3 (WORD_SHIFT), 0 to 63 stand, anything else is none.
unfoldable pub alignment_of : ℕ → Option ℕ
alignment_of raw =
    choose (eqb raw 0xFFFFFFFF) (Some 3) (choose (leb raw 63) (Some raw) None)

-- Whether an offset has at least as many trailing zero bits as the alignment; offset 0 always does. Unknown where one of the two is none.
unfoldable pub aligned_of : Option ℕ → Option ℕ → Option Bool
aligned_of (Some n) (Some k) = Some (eqb n 0 || leb k (count_trailing_zeros 32 n))
aligned_of (Some n) None = None
aligned_of None a = None

-- An ivar's offset: the four bytes at the pointed place, none if the pointer is 0 or they cannot be read.
abbrev pub decode_offset_there : ℕ → Decode (Option ℕ)
decode_offset_there place = then (nonzero place) (λ a. then (readable a 4) (λ p. then (u32_in p 0) (λ n. done (Some n))))

-- None where that is absent.
unfoldable pub decode_offset : ℕ → Decode (Option ℕ)
decode_offset place = else (decode_offset_there place) (done None)

abbrev pub offset_at : Tables → ℕ → Outcome (Option ℕ)
offset_at t place = run t (decode_offset place)

-- ivar_t: the offset's pointer or 0, name must resolve, type or 0.
unfoldable pub decode_ivar : ℕ → Decode Ivar
decode_ivar va =
    then (readable va ivar_size) (λ p.
    then (or0 (slot va)) (λ place.
    then (pointer va ivar_name) (λ named.
    then (pointer_or0 va ivar_type) (λ typed.
    then (u32_in p ivar_alignment_raw) (λ raw.
    then (u32_in p ivar_own_size) (λ size.
    then (string named) (λ name.
    then (or_empty (string typed)) (λ encoding.
    then (decode_offset place) (λ offset.
    done
    (record {
      name = name;
      type_encoding = encoding;
      offset = offset;
      size = size;
      log2_alignment = alignment_of raw;
      aligned = aligned_of offset (alignment_of raw);
    }))))))))))

abbrev pub ivar_at : Tables → ℕ → Outcome Ivar
ivar_at t va = run t (decode_ivar va)

-- property_t: name must resolve, attributes or 0.
unfoldable pub decode_property : ℕ → Decode Property
decode_property va =
    then (readable va property_size) (λ p.
    then (slot va) (λ named.
    then (pointer_or0 va property_attributes) (λ told.
    then (string named) (λ name.
    then (or_empty (string told)) (λ attributes.
    done (record { name = name; attributes = attributes }))))))

abbrev pub property_at : Tables → ℕ → Outcome Property
property_at t va = run t (decode_property va)

-- A row by what the entries of its list are.
unfoldable pub decode_row : RowKind → ℕ → Decode Row
decode_row rows.Legacy va = then (decode_legacy_method va) (λ m. done (row.Method m))
decode_row rows.SmallIndirect va = then (decode_small_method va Indirect) (λ m. done (row.Method m))
decode_row rows.SmallDirect va = then (decode_small_method va Direct) (λ m. done (row.Method m))
decode_row rows.Ivar va = then (decode_ivar va) (λ i. done (row.Ivar i))
decode_row rows.Property va = then (decode_property va) (λ p. done (row.Property p))

abbrev pub row_at : Tables → RowKind → ℕ → Outcome Row
row_at t k va = run t (decode_row k va)
