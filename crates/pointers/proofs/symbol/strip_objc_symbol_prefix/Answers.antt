use Rattle.std.proofs.Common.{◌≡◌, arith}
use Rattle.reads.specs.Files.{files_lent, file_of}
use Rattle.pointers.specs.Symbol.{fitting, prefixes}
use Rattle.pointers.proofs.Prefixes.{fitting_length, fitting_part, stripped_by}
use Rattle.pointers.proofs.symbol.strip_objc_symbol_prefix.Goals as goal

pub overflow_add-result : goal.overflow_add-result
overflow_add-result c =
    let there = c.name_bytes.result.now in
    let told : c.prefix_length-n.result ≡ fitting prefixes there = c.prefix_length-n.ensures in
    omega (arith, told, fitting_length prefixes there)

pub overflow_sub-result : goal.overflow_sub-result
overflow_sub-result c =
    let a = c.args in
    let there = c.name_bytes.result.now in
    let told : c.prefix_length-n.result ≡ fitting prefixes there = c.prefix_length-n.ensures in
    omega (arith, told, fitting_part prefixes (file_of (files_lent a.files.now) a.name.file) a.name.offset a.name.len there c.name_bytes.ensures.bytes)

pub returns : goal.returns
returns c =
    let a = c.args in
    stripped_by (file_of (files_lent a.files.now) a.name.file) a.name c.name_bytes.result.now _ c.name_bytes.ensures.bytes c.prefix_length-n.ensures
