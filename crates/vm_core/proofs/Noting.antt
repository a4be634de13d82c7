-- Calls that stop before an entry of the journal, and calls that end with the stop of another.
use Rattle.std.proofs.Common.{◌≡◌, inl, inr, Result, Ok, Err, sym, ap, subst}
use Rattle.std.specs.Prelude.{IfErr, IfOk, OnOk}
use Rattle.std.specs.Result.{IsErrAnd}
use Rattle.std.proofs.lemmas.Result.{err_from_is_err_and}
use Rattle.vm_facts.specs.declared.stop.Stop.{Stop}
use Rattle.vm_facts.specs.declared.stop.Stop.TheVariants as stops
use Rattle.machine_state.specs.Machine.{Standing}
use Rattle.machine_state.specs.Performing.{IsAtBound, StopsForRoom}
use Rattle.proc_run.specs.Stops.{StopsBefore}

-- what is so of the stop of a call is so of one that ends with it
pub stops_on : {T : Type 0} (r : Result T Stop) (stop : Stop) (Q : Stop → Type 0) → IsErrAnd r (λ y. y ≡ stop) → Q stop → IfErr r Q
stops_on r stop Q h q = let p = err_from_is_err_and r h in rw p.1 (subst Q (sym p.2) q)

pub same_error : {T : Type 0} (a b : Stop) → (let r : Result T Stop = Err a in r) ≡ Err b → a ≡ b
same_error a b e = cc

pub stops_noting : {T : Type 0} (r : Result T Stop) (old new : Standing) → old.before ≡ old.kernel.holdings → StopsForRoom (IsAtBound old) r old new
    → IfErr r (λ stop. StopsBefore old new stop)
stops_noting (Ok x) old new w s = tt
stops_noting {T = T} (Err stop) old new w s = record {
  stopped = s.stop;
  whole = w;
  cause = elim s.cause [
    | inl e ↦ inl (same_error {T = T} stop stops.JournalFull e)
    | inr e ↦ inr (same_error {T = T} stop stops.NoMemory e)
  ];
  full = λ e. s.full.0 (ap (λ (t : Stop). let r : Result T Stop = Err t in r) e);
}

-- what follows from what is so of the stop
pub stops_weaker : {T : Type 0} (r : Result T Stop) (P Q : Stop → Type 0) → ((stop : Stop) → P stop → Q stop) → IfErr r P → IfErr r Q
stops_weaker (Ok x) P Q f h = tt
stops_weaker (Err stop) P Q f h = f stop h

-- what follows from a fact of a call that did not stop
pub ok_so : {T : Type 0} (r : Result T Stop) (P Q : Type 0) → (P → Q) → OnOk r P → OnOk r Q
ok_so (Ok x) P Q f p = f p
ok_so (Err stop) P Q f p = tt

-- what follows of an answer from what is so of it
pub ok_weaker : {T : Type 0} (r : Result T Stop) (P Q : T → Type 0) → ((x : T) → P x → Q x) → IfOk r P → IfOk r Q
ok_weaker (Ok x) P Q f h = f x h
ok_weaker (Err stop) P Q f h = tt

pub ok_two : {T : Type 0} (r : Result T Stop) (P Q R : T → Type 0) → ((x : T) → P x → Q x → R x) → IfOk r P → IfOk r Q → IfOk r R
ok_two (Ok x) P Q R f h k = f x h k
ok_two (Err stop) P Q R f h k = tt
