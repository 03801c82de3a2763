-- What a call answers, beside what reading gives.
use Rattle.std.specs.Prelude.{◌≡◌, Result, Ok, Err, ⊤}
use Rattle.fzn_reader.specs.declared.refused.Refused.{Refused}
use Rattle.fzn_reader.specs.declared.parse_fault.ParseFault.{ParseFault}
use Rattle.fzn_reader.specs.declared.parse_fault.ParseFault.TheVariants as fault

-- What a call that takes no memory answers, seen as a value of reading, is what reading gives.
abbrev pub Agrees : {X Y : Type 0} → (X → Y) → Result X Refused → Result Y Refused → Type 0
Agrees view (Ok x) read = read ≡ Ok (view x)
Agrees view (Err r) read = read ≡ Err r

-- The fault is the refusal that reading gives, or memory ran out.
abbrev pub Fails : {Y : Type 0} → ParseFault → Result Y Refused → Type 0
Fails (fault.Refused r) read = read ≡ Err r
Fails fault.NoMemory read = ⊤

-- What a call that takes memory answers, seen as a value of reading, is what reading gives, unless memory ran out.
abbrev pub Gives : {X Y : Type 0} → (X → Y) → Result X ParseFault → Result Y Refused → Type 0
Gives view (Ok x) read = read ≡ Ok (view x)
Gives view (Err e) read = Fails e read
