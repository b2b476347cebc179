use Rattle.std.proofs.Common.{◌≡◌, min, refl, ◌∙◌}
use Rattle.weights.specs.Ahead.{ahead}
use Rattle.weights.specs.Weights.{steps, modules}
use Rattle.weights.proofs.Agree.{figures_agree, chains_agree}
use Rattle.weights.proofs.Longest.{longest_chain}
use Rattle.weights.proofs.Weighing.{looked_up, weighed}
use Rattle.weights.proofs.weigh.Goals as goal

pub returns : goal.returns
returns c =
    let program = c.args.program.now in
    let place = c.args.place in
    let figure : c.at.result ≡ min 60001 (ahead steps program.code place) = c.at.ensures ∙ looked_up steps 60001 program.code c.figures.result place _ program.whole c.figures.ensures.whole refl c.figures.ensures.each in
    let chain : c.at-2.result ≡ min 9 (ahead modules program.code place) = c.at-2.ensures ∙ looked_up modules 9 program.code c.heights.result place _ program.whole c.heights.ensures.whole refl c.heights.ensures.each in
    record {
      figure = figure;
      chain = chain;
      list = weighed program.code place _ figure chain;
      figures = figures_agree;
      chains = chains_agree;
      longest = longest_chain;
    }
