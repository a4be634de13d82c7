-- What a call is promised to leave, carried on to what it leaves.
use Rattle.std.proofs.Common.{Result, Ok, Err, IfErr, OnOk}
use Rattle.vm_facts.specs.declared.stop.Stop.{Stop}

pub on_ok : {A E P Q : Type 0} (r : Result A E) → (P → Q) → OnOk r P → OnOk r Q
on_ok (Ok x) f h = f h
on_ok (Err e) f h = h

pub if_err : {A : Type 0} {P Q : Stop → Type 0} (r : Result A Stop) → ((stop : Stop) → P stop → Q stop) → IfErr r P → IfErr r Q
if_err (Ok x) f h = h
if_err (Err stop) f h = f stop h
