-- The section table that loader.h defines (section_64): the first section of each name.
use Rattle.std.specs.Prelude.{ℕ, zero, suc, ◌+◌, ◌-◌, Bool, List, [], ◌∷◌, ◌++◌, length, replicate, Option, None, Some}
use Rattle.std.specs.Option.{unwrap_or}
use Rattle.reads.specs.Outcome.{choose}
use Rattle.pointers.specs.Symbol.{ascii, starts}
use Rattle.macho.specs.Loader.{nsects, addr, size, offset, name_at}
use Rattle.macho.specs.Commands.{segments_of}
use Rattle.macho.specs.declared.section.Section.{Section}

-- Where k section headers stand, from b on.
unfoldable pub headers_from : ℕ → ℕ → List ℕ
headers_from zero b = []
headers_from (suc k) b = b ∷ headers_from k (b + 80)

-- Where the section headers of the segment commands stand, in command order.
unfoldable pub sections_of : List ℕ → List ℕ → List ℕ
sections_of cmds [] = []
sections_of cmds (a ∷ others) = headers_from (nsects cmds a) (a + 72) ++ sections_of cmds others

abbrev pub section_at : List ℕ → ℕ → Section
section_at cmds b = record { addr = addr cmds b; size = size cmds b; offset = offset cmds b }

-- One without bytes.
abbrev pub section_none : Section
section_none = record { addr = 0; size = 0; offset = 0 }

-- The name at an offset is this one, of 16 bytes: all 16 are equal.
unfoldable pub named : List ℕ → List ℕ → ℕ → Bool
named cmds name at = starts name (name_at cmds at)

-- The first section of a name, among the headers that stand at the offsets given.
unfoldable pub first_named : List ℕ → List ℕ → List ℕ → Option Section
first_named cmds name [] = None
first_named cmds name (b ∷ bs) = choose (named cmds name b) (Some (section_at cmds b)) (first_named cmds name bs)

abbrev pub section_named : List ℕ → ℕ → List ℕ → Option Section
section_named cmds count name = first_named cmds name (sections_of cmds (segments_of cmds count))

-- A name is 16 bytes, filled with zeros.
abbrev pub padded : List ℕ → List ℕ
padded name = name ++ replicate (16 - length name) 0

-- In the order of the section table: class_list, nlclslist, cat_list, nlcat_list, proto_list.
abbrev pub section_names : List (List ℕ)
section_names =
    padded (ascii "__objc_classlist")
    ∷ padded (ascii "__objc_nlclslist")
    ∷ padded (ascii "__objc_catlist")
    ∷ padded (ascii "__objc_nlcatlist")
    ∷ padded (ascii "__objc_protolist")
    ∷ []

abbrev pub info_name : List ℕ
info_name = padded (ascii "__objc_imageinfo")

-- The section of the image info: one without bytes where it is absent.
abbrev pub info_section_of : List ℕ → ℕ → Section
info_section_of cmds count = unwrap_or (section_named cmds count info_name) section_none

-- present, vmaddr, length: zeros for an absent one.
unfoldable pub section_row : Option Section → List ℕ
section_row None = 0 ∷ 0 ∷ 0 ∷ []
section_row (Some s) = 1 ∷ s.addr ∷ s.size ∷ []

-- The rows of the sections of the names given, among the headers that stand at the offsets given.
unfoldable pub section_rows : List ℕ → List ℕ → List (List ℕ) → List ℕ
section_rows cmds headers [] = []
section_rows cmds headers (name ∷ names) = section_row (first_named cmds name headers) ++ section_rows cmds headers names

abbrev pub section_table_of : List ℕ → ℕ → List ℕ
section_table_of cmds count = section_rows cmds (sections_of cmds (segments_of cmds count)) section_names
