use Rattle.vax_disasm.proofs.line.Line.+push_hexadecimal.Given as goal

abbrev pub decreases-push_hexadecimal : goal.decreases-push_hexadecimal
decreases-push_hexadecimal l = l.places
