use Rattle.std.proofs.Common.{ℕ, ◌≤◌, ◌<◌}
use Rattle.rx_term.specs.Language.{Has}
use Rattle.rx_term.specs.Closing.{IsPrintable}
use Rattle.rx_auto.specs.Classes.{AreAlike}
use Rattle.rx_auto.proofs.sets.first_bytes.Given as goal

abbrev pub invariant-loop-byte : goal.invariant-loop-byte
invariant-loop-byte l = record {
  within : (c : ℕ) → Has l.bytes.items c → IsPrintable c;
  each : (b : ℕ) → 32 ≤ b → b < l.byte → (c : ℕ) × Has l.bytes.items c × AreAlike l.sets c b;
}
