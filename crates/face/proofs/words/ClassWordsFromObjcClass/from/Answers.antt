use Rattle.face.proofs.Codes.{bool_flag}
use Rattle.face.proofs.words.ClassWordsFromObjcClass.from.Goals as goal

pub returns : goal.returns
returns c = cc (bool_flag c.args.c.is_meta)
