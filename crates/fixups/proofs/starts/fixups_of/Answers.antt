use Rattle.std.proofs.Common.{sym, ◌∙◌, arith}
use Rattle.fixups.proofs.Pages as laws
use Rattle.fixups.proofs.starts.fixups_of.Goals as goal

pub returns-then-body-lt-SIZEOF_CHAINED_FIXUPS_HEADER : goal.returns-then-body-lt-SIZEOF_CHAINED_FIXUPS_HEADER
returns-then-body-lt-SIZEOF_CHAINED_FIXUPS_HEADER c = let a = c.args in laws.header_out a.body.now a.at a.base (omega arith)

pub returns-then-u32_from-ne-DYLD_CHAINED_IMPORT : goal.returns-then-u32_from-ne-DYLD_CHAINED_IMPORT
returns-then-u32_from-ne-DYLD_CHAINED_IMPORT c =
    let a = c.args in
    laws.imports_unread a.body.now a.at a.base (omega arith) (λ e. c.if-u32_from-ne-DYLD_CHAINED_IMPORT.true (c.u32_from.ensures ∙ e))

pub returns-then-u32_from-ne-SYMBOLS_UNCOMPRESSED : goal.returns-then-u32_from-ne-SYMBOLS_UNCOMPRESSED
returns-then-u32_from-ne-SYMBOLS_UNCOMPRESSED c =
    let a = c.args in
    laws.symbols_unread a.body.now a.at a.base (omega arith)
    (sym c.u32_from.ensures ∙ c.if-u32_from-ne-DYLD_CHAINED_IMPORT.false) (λ e. c.if-u32_from-ne-SYMBOLS_UNCOMPRESSED.true (c.u32_from-2.ensures ∙ e))

pub returns : goal.returns
returns c =
    let a = c.args in
    laws.header_in a.body.now a.at a.base (omega arith)
    (sym c.u32_from.ensures ∙ c.if-u32_from-ne-DYLD_CHAINED_IMPORT.false) (sym c.u32_from-2.ensures ∙ c.if-u32_from-ne-SYMBOLS_UNCOMPRESSED.false) _
    (rw (c.u32_from-3.ensures, c.u32_from-4.ensures, c.u32_from-5.ensures, c.u32_from-6.ensures))
