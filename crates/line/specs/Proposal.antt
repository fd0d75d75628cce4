-- A proposal's five f64s, most significant byte first (01, "The bench program"). Assumes nothing.
use Rattle.std.specs.Prelude.{ℕ, zero, suc, ◌+◌, ◌*◌, List, get_or, Float}
use Rattle.std.specs.Float.Ieee.{of_bits}
use Rattle.std.specs.Float.{binary64}
use Rattle.line.specs.declared.proposal.Proposal.{Proposal}

-- the number that so many bytes from a place on write in base 256
unfoldable pub bytes_number : List ℕ → (at count : ℕ) → ℕ
bytes_number bytes at zero = 0
bytes_number bytes at (suc k) = bytes_number bytes at k * 256 + get_or bytes (at + k) 0

-- the f64 at a place
unfoldable pub double_at : List ℕ → ℕ → Float
double_at bytes at = of_bits binary64 (bytes_number bytes at 8)

abbrev pub proposal_of : List ℕ → Proposal
proposal_of bytes =
    record {
      temperature = double_at bytes 0;
      liquid = double_at bytes 8;
      vapour = double_at bytes 16;
      pressure_tolerance = double_at bytes 24;
      gibbs_tolerance = double_at bytes 32;
    }
