use Rattle.std.proofs.Common.{◌≡◌, pos}
use Rattle.emp_line.specs.Pivot.{line_content}
use Rattle.emp_line.proofs.Seeds.{divisor_whole, content_positive, content_narrow}
use Rattle.emp_line.proofs.row.Row.divisor.Goals as goal
use Rattle.emp_line.proofs.row.Row.divisor.Goals.{After-content}

value : (c : After-content) → pos c.content.result ≡ line_content c.args.self.now
value c = divisor_whole c.args.self.now c.args.column c.seed-seed.result c.grown.result c.content.result c.requires.column c.seed-seed.ensures c.grown.ensures c.content.ensures

pub returns-clause-positive : goal.returns-clause-positive
returns-clause-positive c = content_positive c.args.self.now c.content.result (value (goal.at.returns-clause-positive c).After-content) c.requires.sound

pub returns-clause-narrow : goal.returns-clause-narrow
returns-clause-narrow c = content_narrow c.args.self.now c.content.result (value (goal.at.returns-clause-narrow c).After-content) c.requires.sound
