use Rattle.std.proofs.Common.{◌≡◌, false, drop}
use Rattle.fzn_lexer.specs.Scan.{behind, quoted_len}
use Rattle.fzn_lexer.proofs.longest.quoted_len.Given as goal

abbrev pub invariant-loop-i : goal.invariant-loop-i
invariant-loop-i l = behind l.i (quoted_len l.escaped (drop l.i l.bytes)) ≡ quoted_len false l.bytes
