use Rattle.std.proofs.Common.{map, string_bytes}
use Rattle.um_words.proofs.Ranges.{made_in_range}
use Rattle.um_words.proofs.commands.command.Goals as goal

pub returns-clause-ranges : goal.returns-clause-ranges
returns-clause-ranges c = made_in_range (map string_bytes c.args.words.now) c.read_in_turn.result c.read_in_turn.ensures
