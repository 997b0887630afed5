-- Lists (document 01, Lists; objc-runtime-new.h, entsize_list_tt; method.rs, ivar.rs, property.rs).
use Rattle.std.specs.Prelude.{ℕ, ◌+◌, ◌-◌, ◌*◌, ◌%◌, ◌^◌, Bool, true, false, ◌&&◌, ltb}
use Rattle.reads.specs.Outcome.{Outcome, choose}
use Rattle.reads.specs.Breaks.{can_read}
use Rattle.reads.specs.Place.{Image}
use Rattle.pointers.specs.Tables.{Tables}
use Rattle.pointers.specs.ImageInfo.{bit}
use Rattle.records.specs.Decode.{Decode, run, done, then, when, sum64, nonzero, even, at_least, readable, u32_in}
use Rattle.records.specs.Header.{list_size, list_entsize_and_flags, list_count, method_size, small_method_size, ivar_size, property_size}
use Rattle.records.specs.declared.list.ListKind.{ListKind}
use Rattle.records.specs.declared.list.ListKind.TheVariants as list
use Rattle.records.specs.declared.list.RowKind.{RowKind}
use Rattle.records.specs.declared.list.RowKind.TheVariants as row
use Rattle.records.specs.declared.list.Layout.{Layout}

-- Least sizes: those of the structs.
abbrev pub least : RowKind → ℕ
least row.Legacy = method_size
least row.SmallIndirect = small_method_size
least row.SmallDirect = small_method_size
least row.Ivar = ivar_size
least row.Property = property_size

-- A method list's word: 0x80000000 marks small, 0x40000000 direct selectors.
unfoldable pub method_rows : ℕ → RowKind
method_rows w = choose (bit 31 w) (choose (bit 30 w) row.SmallDirect row.SmallIndirect) row.Legacy

abbrev pub rows_of : ListKind → ℕ → RowKind
rows_of list.Methods w = method_rows w
rows_of list.Ivars w = row.Ivar
rows_of list.Properties w = row.Property

-- The entry size: of methods the word & 0xFFFC, of the others the whole word.
abbrev pub size_of : ListKind → ℕ → ℕ
size_of list.Methods w = w % 2 ^ 16 - w % 4
size_of list.Ivars w = w
size_of list.Properties w = w

-- The layout of a header's two words.
abbrev pub layout : ListKind → ℕ → ℕ → ℕ → Layout
layout k base w count = record { base = base; size = size_of k w; count = count; kind = rows_of k w }

-- Methods and properties are listed at even addresses.
abbrev pub must_be_even : ListKind → Bool
must_be_even list.Methods = true
must_be_even list.Ivars = false
must_be_even list.Properties = true

-- What the header at an address says: absent where its 8 bytes cannot be read, where the size is below the least, where address + 8 is over 64 bits.
abbrev pub decode_layout : ListKind → ℕ → Decode Layout
decode_layout k va =
    then (readable va list_size) (λ p.
    then (u32_in p list_entsize_and_flags) (λ w.
    then (u32_in p list_count) (λ count.
    then (at_least (least (rows_of k w)) (size_of k w)) (λ _.
    then (sum64 va list_size) (λ base.
    done (layout k base w count))))))

abbrev pub layout_at : Tables → ListKind → ℕ → Outcome Layout
layout_at t k va = run t (decode_layout k va)

-- The list at an address: absent at 0, odd (except ivars), and as its header is.
unfoldable pub decode_list : ListKind → ℕ → Decode Layout
decode_list k va =
    then (nonzero va) (λ _.
    then (when (must_be_even k) (even va) (done va)) (λ _.
    decode_layout k va))

abbrev pub list_at : Tables → ListKind → ℕ → Outcome Layout
list_at t k va = run t (decode_list k va)

-- Entry i is at list + 8 + i x size.
abbrev pub entry_address : Layout → ℕ → ℕ
entry_address h i = h.base + i * h.size

-- It is readable if its address is one of 64 bits and its least size in bytes can be read.
unfoldable pub entry : Image → Layout → ℕ → Bool
entry m h i = ltb (entry_address h i) (2 ^ 64) && can_read m (least h.kind) (entry_address h i)
