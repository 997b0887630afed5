-- What opening answers for C: the image info in words, and of a Mach-O file what else it hands out.
use Rattle.reads.specs.Outcome.{Outcome}
use Rattle.walks.specs.Sections.{Step}
use Rattle.pointers.specs.declared.imageinfo.ImageInfo.{ImageInfo}
use Rattle.macho.specs.declared.open.OpenedFile.{OpenedFile}
use Rattle.face.specs.Status.{says, words_or}
use Rattle.face.specs.declared.opening.InfoTold.{InfoTold}
use Rattle.face.specs.declared.opening.FileWords.{FileWords}
use Rattle.face.specs.declared.opening.FileTold.{FileTold}

abbrev pub opened_words : Outcome (Step ImageInfo) → InfoTold
opened_words o =
    record { status = says o; version = words_or 0 (λ i. i.version) o; flags = words_or 0 (λ i. i.flags) o }

abbrev pub file_words : OpenedFile → FileWords
file_words o =
    record {
      segments = o.segments;
      version = o.info.version;
      flags = o.info.flags;
      info_at = o.info_at;
      info_len = o.info_len;
    }

abbrev pub no_file : FileWords
no_file = record { segments = 0; version = 0; flags = 0; info_at = 0; info_len = 0 }

abbrev pub file_told : Outcome (Step OpenedFile) → FileTold
file_told o = record { status = says o; file = words_or no_file file_words o }
