-- The frame is free, holds a page, or is in a transfer.
use Rattle.std.proofs.Common.{◌≡◌, ℕ, ◌<◌, sym, ap, ◌∙◌, arith}
use Rattle.vm_facts.specs.Lists.{times}
use Rattle.core_map.specs.Order.{place_from}
use Rattle.owner_lines.specs.Owners.{free_text}
use Rattle.owner_lines.specs.Carried.{carried_text}
use Rattle.owner_lines.proofs.Owning.{free_listed, free_owner, used_owner, away_owner}
use Rattle.run_text.proofs.Putting.{text_is}
use Rattle.owner_lines.proofs.frames.put_owner.Goals as goal

pub put_used-requires-clause-owner : goal.put_used-requires-clause-owner
put_used-requires-clause-owner g c = sym c.in-Resident.ensures.owner

pub place_of-requires : goal.place_of-requires
place_of-requires g c = omega (arith, c.requires.places.long, c.requires.frame.1)

pub returns-in-Free : goal.returns-in-Free
returns-in-Free g c =
    let p = c.args.machine.now.kernel.place in
    let there : 0 < times c.args.frame p.free = free_listed p c.args.core.now c.requires.running.sound.owner.frames c.requires.shows c.args.frame c.in-Free.page (sym c.in-Free.ensures.owner) in
    let place : c.place_of.result ≡ place_from 1 c.args.frame c.args.core.now.free =
    c.place_of.ensures
    ∙ c.requires.places.free c.args.frame there
    ∙ ap (place_from 1 c.args.frame) c.requires.shows.free in
    text_is
    (ap (λ (n : ℕ). free_text n c.in-Free.page) place
    ∙ sym (free_owner c.args.machine.now.kernel.place c.args.core.now c.requires.running.sound.owner.frames c.requires.shows c.args.frame c.in-Free.page (sym c.in-Free.ensures.owner)))
    c.put_free.ensures

pub returns-in-Resident : goal.returns-in-Resident
returns-in-Resident g c =
    text_is
    (sym (used_owner c.args.machine.now.kernel.place c.args.core.now c.requires.running.sound.owner.frames c.requires.shows c.args.frame c.in-Resident.page (sym c.in-Resident.ensures.owner)))
    c.put_used.ensures

pub returns-in-Away : goal.returns-in-Away
returns-in-Away g c =
    text_is
    (ap carried_text c.find_carrier.ensures
    ∙ sym (away_owner c.args.machine.now.kernel.place c.args.core.now c.requires.running.sound.owner.frames c.requires.shows c.args.frame c.requires.frame (sym c.in-Away.ensures.owner)))
    c.put_carried.ensures
