-- What a certificate may hold, in numbers.
use Rattle.std.specs.Prelude.{◌≡◌}
use Rattle.proof_text.specs.declared.limits.TheConstants.{MOST_NESTING, MOST_NUMBER, MOST_PROOF_BYTES}

-- splits and labels nest up to 2,000, a number is at most 4,294,967,295, and there are at most 67,108,864 bytes
pub record CertificateLimits : Type 0 where
  pub nesting : MOST_NESTING ≡ 2000
  pub number : MOST_NUMBER ≡ 4294967295
  pub bytes : MOST_PROOF_BYTES ≡ 67108864
