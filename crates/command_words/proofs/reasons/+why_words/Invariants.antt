use Rattle.std.proofs.Common.{length}
use Rattle.command_words.proofs.reasons.+why_words.Given as goal

abbrev pub decreases-why_words : goal.decreases-why_words
decreases-why_words l = length l.arguments.now
