-- The acts of a journal: they lead as far as it does, and all that is seen is among them.
use Rattle.std.proofs.Common.{◌≡◌, ℕ, zero, suc, Bool, false, ◌&&◌, cond, List, [], ◌∷◌, filter, is_some, Option, Some, None, refl, sym, ap, ◌∙◌, if◌then◌else◌}
use Rattle.vm_facts.specs.declared.entry.Entry.{Entry}
use Rattle.vm_facts.specs.declared.entry.Entry.TheVariants.{Ran, Out, Call, Refused, Ended, Hands}
use Rattle.flat_state.specs.Flat.{FlatState, NamedImage, Inputs, process_of, can_step}
use Rattle.flat_state.specs.Journal.{repeated, units_with, units_of}
use Rattle.flat_model.specs.Run.{Point, is_refused, due, behind, is_first_of, process_of_entry, may_follow, is_due, comes_at, led_to, flat_entry_by, flat_entry, flat_units}
use Rattle.flat_model.specs.Step.{Step, step_if, flat_step}
use Rattle.flat_laws.specs.Others.{is_refusal}
use Rattle.flat_laws.specs.Visible.{is_visible, visible_of, is_act, acts_of, is_fork, HasNo}

-- What no entry of a journal is, no unit is.

repeated_none : (test : Entry → Bool) (u : Entry) (n : ℕ) (us : List Entry) → test u ≡ false → HasNo test us → HasNo test (repeated u n us)
repeated_none test u zero us h k = k
repeated_none test u (suc n) us h k = (h, repeated_none test u n us h k)

with_none : (test : Entry → Bool) (e : Entry) (us : List Entry) → ((p : ℕ) → test (Ran p 1) ≡ false) → test (Hands 1) ≡ false → test e ≡ false → HasNo test us
    → HasNo test (units_with e us)
with_none test (Ran p n) us ran hands h k = repeated_none test (Ran p 1) n us (ran p) k
with_none test (Hands n) us ran hands h k = repeated_none test (Hands 1) n us hands k
with_none test _ us ran hands h k = (h, k)

units_none : (test : Entry → Bool) (journal : List Entry) → ((p : ℕ) → test (Ran p 1) ≡ false) → test (Hands 1) ≡ false → HasNo test journal
    → HasNo test (units_of journal)
units_none test [] ran hands h = tt
units_none test (e ∷ journal) ran hands h = with_none test e (units_of journal) ran hands h.0 (units_none test journal ran hands h.1)

-- an entry of a process, that is neither a fork's nor a refusal
pub record IsPlainAct (e : Entry) : Type 0 where
  pub pid : ℕ
  pub of : process_of_entry e ≡ Some pid
  pub served : is_refusal e ≡ false
  pub childless : is_fork e ≡ false

abbrev pub ArePlainActs : List Entry → Type 0
ArePlainActs [] = Unit {0}
ArePlainActs (e ∷ es) = IsPlainAct e × ArePlainActs es

plain_units : (us : List Entry) → HasNo is_refusal us → HasNo is_fork us → ArePlainActs (filter is_act us)
plain_units [] served childless = tt
plain_units (u ∷ us) served childless = go (process_of_entry u) refl (plain_units us served.1 childless.1)
  where
    go : (o : Option ℕ) → process_of_entry u ≡ o → ArePlainActs (filter is_act us) → ArePlainActs (cond (is_some o) (u ∷ filter is_act us) (filter is_act us))
    go None e later = later
    go (Some pid) e later = (record { pid = pid; of = e; served = served.0; childless = childless.0 }, later)

pub plain_acts : (journal : List Entry) → HasNo is_refusal journal → HasNo is_fork journal → ArePlainActs (acts_of journal)
plain_acts journal served childless =
    plain_units (units_of journal) (units_none is_refusal journal (λ p. refl) refl served) (units_none is_fork journal (λ p. refl) refl childless)

-- What is seen is among the acts.

seen_repeated : (u : Entry) (n : ℕ) (us : List Entry) → is_visible u ≡ false → filter is_visible (repeated u n us) ≡ filter is_visible us
seen_repeated u zero us h = refl
seen_repeated u (suc n) us h =
    ap (λ (b : Bool). cond b (u ∷ filter is_visible (repeated u n us)) (filter is_visible (repeated u n us))) h ∙ seen_repeated u n us h

seen_with : (e : Entry) (us : List Entry) → filter is_visible (units_with e us) ≡ cond (is_visible e) (e ∷ filter is_visible us) (filter is_visible us)
seen_with (Ran p n) us = seen_repeated (Ran p 1) n us refl
seen_with (Hands n) us = seen_repeated (Hands 1) n us refl
seen_with _ us = refl

seen_units : (journal : List Entry) → filter is_visible (units_of journal) ≡ filter is_visible journal
seen_units [] = refl
seen_units (e ∷ journal) =
    seen_with e (units_of journal) ∙ ap (λ (xs : List Entry). cond (is_visible e) (e ∷ xs) xs) (seen_units journal)

act_seen : (u : Entry) (us seen : List Entry) → filter is_visible us ≡ seen
    → filter is_visible (cond (is_act u) (u ∷ us) us) ≡ cond (is_visible u) (u ∷ seen) seen
act_seen (Out p bytes) us seen h = ap (λ (xs : List Entry). Out p bytes ∷ xs) h
act_seen (Call p n c r0 r1) us seen h = ap (λ (xs : List Entry). Call p n c r0 r1 ∷ xs) h
act_seen (Ended p status) us seen h = ap (λ (xs : List Entry). Ended p status ∷ xs) h
act_seen _ us seen h = h

acts_seen : (us : List Entry) → filter is_visible (filter is_act us) ≡ filter is_visible us
acts_seen [] = refl
acts_seen (u ∷ us) = act_seen u (filter is_act us) (filter is_visible us) (acts_seen us)

pub visible_acts : (journal : List Entry) → filter is_visible (acts_of journal) ≡ visible_of journal
visible_acts journal = acts_seen (units_of journal) ∙ seen_units journal

-- The acts lead to the point to which the units lead.

pub acts_lead : (A : Inputs) (us : List Entry) (o : Option Point) → flat_units A o us ≡ flat_units A o (filter is_act us)
unfolding flat_units flat_entry
acts_lead A us None = refl
acts_lead A [] (Some point) = refl
acts_lead A (u ∷ us) (Some point) = go (λ o. acts_lead A us o) (process_of_entry u) refl
  where
    go : ((o : Option Point) → flat_units A o us ≡ flat_units A o (filter is_act us)) → (of : Option ℕ) → process_of_entry u ≡ of
        → flat_units A (flat_entry_by A point of u) us ≡ flat_units A (Some point) (cond (is_some of) (u ∷ filter is_act us) (filter is_act us))
    go later None e = later (Some point)
    go later (Some pid) e =
        later (flat_entry_by A point (Some pid) u) ∙ ap (λ (of : Option ℕ). flat_units A (flat_entry_by A point of u) (filter is_act us)) (sym e)

-- An entry leads to the same point where the images are the same.

step_same : (A B : Inputs) (F : FlatState) (pid : ℕ) (refused : Bool) → B.images ≡ A.images → flat_step B F pid refused ≡ flat_step A F pid refused
unfolding flat_step
step_same A B F pid refused h = ap (λ (images : List NamedImage). step_if images F refused (process_of F pid)) h

due_same : (A B : Inputs) (point : Point) (pid : ℕ) (e : Entry) → B.images ≡ A.images → is_due B point pid e ≡ is_due A point pid e
due_same A B point pid (Refused p) h = refl
due_same A B point pid e h =
    ap (λ (s : Step). is_first_of (due point.last pid s.entries) e) (step_same A B point.flat pid (is_refused point.last pid) h)

led_same : (A B : Inputs) (point : Point) (pid : ℕ) (e : Entry) → B.images ≡ A.images → led_to B point pid e ≡ led_to A point pid e
led_same A B point pid (Refused p) h = refl
led_same A B point pid e h =
    ap (λ (s : Step). behind point s.after (due point.last pid s.entries)) (step_same A B point.flat pid (is_refused point.last pid) h)

entry_same : (A B : Inputs) (point : Point) (e : Entry) → B.images ≡ A.images → flat_entry B point e ≡ flat_entry A point e
unfolding flat_entry
entry_same A B point e h = go (process_of_entry e)
  where
    go : (of : Option ℕ) → flat_entry_by B point of e ≡ flat_entry_by A point of e
    go None = refl
    go (Some pid) =
        ap (λ (b : Bool). if may_follow point.last e && (can_step point.flat pid && b) then Some (led_to B point pid e) else None) (due_same A B point pid e h)
        ∙ ap (λ (q : Point). if comes_at A point pid e then Some q else None) (led_same A B point pid e h)

pub units_same : (A B : Inputs) (us : List Entry) (o : Option Point) → B.images ≡ A.images → flat_units B o us ≡ flat_units A o us
unfolding flat_units
units_same A B us None h = refl
units_same A B [] (Some point) h = refl
units_same A B (u ∷ us) (Some point) h = go (λ o. units_same A B us o h)
  where
    go : ((o : Option Point) → flat_units B o us ≡ flat_units A o us) → flat_units B (flat_entry B point u) us ≡ flat_units A (flat_entry A point u) us
    go later = ap (λ (o : Option Point). flat_units B o us) (entry_same A B point u h) ∙ later (flat_entry A point u)
