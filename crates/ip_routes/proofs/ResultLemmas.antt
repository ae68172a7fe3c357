-- What follows from what a call returned.
use Rattle.std.proofs.Common.{Option, Some, None, Result, Ok, Err, IfErr, IfNone, IfSome, OnErr, OnOk}

pub if_some : {A : Type 0} {P Q : A → Type 0} (o : Option A) → ((x : A) → P x → Q x) → IfSome o P → IfSome o Q
if_some None more h = tt
if_some (Some x) more h = more x h

pub if_none : {A P Q : Type 0} (o : Option A) → (P → Q) → IfNone o P → IfNone o Q
if_none None more h = more h
if_none (Some x) more h = tt

pub on_ok : {A E P Q : Type 0} (r : Result A E) → (P → Q) → OnOk r P → OnOk r Q
on_ok (Ok x) more h = more h
on_ok (Err e) more h = tt

pub if_err : {A E : Type 0} {P Q : E → Type 0} (r : Result A E) → ((e : E) → P e → Q e) → IfErr r P → IfErr r Q
if_err (Ok x) more h = tt
if_err (Err e) more h = more e h

pub on_err : {A E P Q : Type 0} (r : Result A E) → (P → Q) → OnErr r P → OnErr r Q
on_err (Ok x) more h = tt
on_err (Err e) more h = more h
