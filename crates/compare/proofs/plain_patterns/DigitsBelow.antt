-- A number of k binary digits is below 2 ^ k.
-- Assumes nothing.
use Rattle.std.proofs.Common.{ℕ, ◌+◌, ◌*◌, ◌^◌, ◌<◌, ◌≤◌, lt_of_lt_of_le, pow-suc, add-one, arith, pow_mono}

pub digit_more : (n m k : ℕ) → n < 2 ^ k → m ≤ n * 2 + 1 → m < 2 ^ (k + 1)
digit_more n m k h e = rw (add-one k, pow-suc 2 k) (omega arith)

pub digits_below : (n k m : ℕ) → n < 2 ^ k → k ≤ m → n < 2 ^ m
digits_below n k m h e = lt_of_lt_of_le h (pow_mono {i = k} {j = m} e)
