-- The lines of the bench program (01, "The bench program"). Assumes nothing.
use Rattle.std.specs.Prelude.{ℕ, List}
use Rattle.verdict.specs.Reading.{Answer, number, place, handed}
use Rattle.verdict.specs.Rules.{pair_answer}
use Rattle.reading.specs.Values.{bits}
use Rattle.line.specs.declared.proposal.Proposal.{Proposal}
use Rattle.line.specs.Line.{line_of}
use Rattle.line.specs.Proposal.{proposal_of}

-- an answer's line: the count, its number, its place and its two ends
unfoldable pub answer_line : ℕ → Answer → List ℕ
answer_line count answer = line_of count (number answer) (place answer) (bits (handed answer).lower) (bits (handed answer).upper)

unfoldable pub pair_of : (w kind : ℕ) → List ℕ → Proposal → Answer
pair_of w kind table p = pair_answer w kind table p.temperature p.liquid p.vapour p.pressure_tolerance p.gibbs_tolerance

-- a whole proposal: the pair check's answer at the width w, for a table of the kind
unfoldable pub proposal_line : (w kind : ℕ) → List ℕ → ℕ → List ℕ → List ℕ
proposal_line w kind table count bytes = answer_line count (pair_of w kind table (proposal_of bytes))

-- one that is cut short: 12, and zeros, whatever the width and the kind
unfoldable pub cut_line : ℕ → List ℕ
cut_line count = line_of count 12 0 0 0
