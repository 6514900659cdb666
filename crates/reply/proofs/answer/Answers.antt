-- `reply::answer` meets its contract. A refused line or a script that was read, by what the line means (ReplyLaws).
use Rattle.hex_line.proofs.FeedingLaws.{script_fits}
use Rattle.reply.proofs.ReplyLaws.{read_text, read_sized}
use Rattle.reply.proofs.answer.Goals as goal
use Rattle.std.proofs.Common.{rules}

pub shared_ref_as_front-read : goal.shared_ref_as_front-read
shared_ref_as_front-read c = script_fits c.args.line _ c.end.ensures c.in-Ok.is

pub returns-in-Ok : goal.returns-in-Ok
returns-in-Ok c = read_text c.args.line c.args.script.now _ c.read.new.tokens c.read.new.nodes c.read.new.keys c.read.new.work c.read.result c.end.ensures c.in-Ok.is (read_sized _ _ c.args.tables.now.tokens c.args.tables.now.nodes c.args.tables.now.keys c.args.tables.now.work (search rules) (search rules) (search rules) (search rules) c.read.ensures) (search rules) (search rules) c.answered.ensures
