use Rattle.face.proofs.Codes.{form_tag}
use Rattle.face.proofs.row.method_words.Goals as goal

pub returns : goal.returns
returns c = cc (form_tag c.args.m.kind)
