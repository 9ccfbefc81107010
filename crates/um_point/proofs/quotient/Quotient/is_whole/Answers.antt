use Rattle.std.proofs.Common.{FitsSigned, rules}
use Rattle.std.specs.Int.{w128}
use Rattle.um_point.proofs.Quotients.{whole_test}
use Rattle.um_point.proofs.quotient.Quotient.is_whole.Goals as goal

pub returns : goal.returns
returns c =
    let fx : FitsSigned w128 c.args.self.now.num = search rules in
    let fq : FitsSigned w128 c.args.self.now.den = search rules in
    whole_test c.args.self.now.den c.args.self.now.num fq fx c.requires
