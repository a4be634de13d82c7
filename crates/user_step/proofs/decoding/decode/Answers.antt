use Rattle.user_step.proofs.decoding.decode.Goals as goal

pub invariant_of-result-clause-plain : goal.invariant_of-result-clause-plain
invariant_of-result-clause-plain c stays = (c.stays_in_registers-stays.ensures.stays stays).plain

pub invariant_of-result-clause-pushes_none : goal.invariant_of-result-clause-pushes_none
invariant_of-result-clause-pushes_none c stays = (c.stays_in_registers-stays.ensures.stays stays).pushes_none

pub invariant_of-result-clause-first_at_hand : goal.invariant_of-result-clause-first_at_hand
invariant_of-result-clause-first_at_hand c stays = (c.stays_in_registers-stays.ensures.stays stays).first

pub invariant_of-result-clause-second_at_hand : goal.invariant_of-result-clause-second_at_hand
invariant_of-result-clause-second_at_hand c stays = (c.stays_in_registers-stays.ensures.stays stays).second

pub invariant_of-result-clause-third_at_hand : goal.invariant_of-result-clause-third_at_hand
invariant_of-result-clause-third_at_hand c stays = (c.stays_in_registers-stays.ensures.stays stays).third

pub invariant_of-result-clause-leaves : goal.invariant_of-result-clause-leaves
invariant_of-result-clause-leaves c stays = c.stays_in_registers-stays.ensures.leaves stays
