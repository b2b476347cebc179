use Rattle.std.proofs.Common.{◌∙◌, rules}
use Rattle.std.specs.String.{string_bytes}
use Rattle.reporting.specs.Files.{IsWell}
use Rattle.reporting.proofs.Turns.{both, one_more}
use Rattle.reporting.proofs.files.each_file.Goals as goal

pub loop-file-preserved : goal.loop-file-preserved
loop-file-preserved g c = (
  c.loop-file.invariant.0,
  λ well k d h.
      let two = both c.loop-file.all c.in_ok-all.field-0 well in
      one_more (λ file. IsWell (goal.F-post g c.args.step) (string_bytes file)) c.args.files.now c.loop-file.file-index c.file-item.result (search rules) c.file-item.is (c.loop-file.invariant.1 two.0) (let s = c.in_ok-all.ensures two.1 in (s.0, s.1 ∙ c.as_str.ensures.value, search rules)) k d h,
)
