-- What becomes of a line, and what it is answered.
use Rattle.std.proofs.Common.{◌≡◌, ◌≢◌, refl, sym, ap, subst, Option, Some, None, Result, Ok, Err, inl, inr, MatchResult}
use Rattle.hv_script.specs.declared.fault.FaultKind.{FaultKind}
use Rattle.hv_script.specs.declared.fault.FaultKind.TheVariants.{Long, Byte, NoBoot, BootTwice, Processor, Word, Count, Number, Hex, TooMany, Memory}
use Rattle.hv_serve.specs.Bench.{HasBecome, HasTaken, IsRequest, IsToldAs, StandsFor, kept_in}
use Rattle.hv_serve.specs.Meant.{Meant}
use Rattle.hv_serve.specs.Outcome.{outcome_by}
use Rattle.hv_serve.specs.Session.{Becomes, Served, kept_of}
use Rattle.hv_serve.specs.declared.bench.Bench.{Bench}
use Rattle.hv_serve.specs.declared.outcome.Outcome.{Outcome}
use Rattle.hv_serve.specs.declared.outcome.Outcome.TheVariants.{Done, Table, Peek, Explain, Help, Fault, Named, Boot, Host}

-- a fault is what becomes of its line
fault_becomes : (before : Option Served) (says : Result Meant FaultKind) (kind : FaultKind) → (kind ≢ Memory → says ≡ Err kind) → Becomes before says (outcome_by kind) before
fault_becomes before says Long is = (is (λ same. cc), refl)
fault_becomes before says Byte is = (is (λ same. cc), refl)
fault_becomes before says NoBoot is = (is (λ same. cc), refl)
fault_becomes before says BootTwice is = (is (λ same. cc), refl)
fault_becomes before says Processor is = (is (λ same. cc), refl)
fault_becomes before says Word is = (is (λ same. cc), refl)
fault_becomes before says Count is = (is (λ same. cc), refl)
fault_becomes before says Number is = (is (λ same. cc), refl)
fault_becomes before says Hex is = (is (λ same. cc), refl)
fault_becomes before says TooMany is = (is (λ same. cc), refl)
fault_becomes before says Memory is = inl (refl, refl)

-- what was taken is what became of the line
pub taken_becomes : (before : Option Served) (says : Result Meant FaultKind) (bench : Option Bench) (came : Result Outcome FaultKind) (outcome : Outcome) → HasTaken before says bench came
    → MatchResult came (λ o. outcome ≡ o) (λ kind. outcome ≡ outcome_by kind) → HasBecome before says outcome bench
taken_becomes before says bench (Ok o) outcome taken same = subst (λ (o : Outcome). HasBecome before says o bench) (sym same) taken
taken_becomes before says bench (Err kind) outcome taken same =
    subst (λ (o : Outcome). HasBecome before says o bench) (sym same) (record { after = before; stands = taken.0; becomes = fault_becomes before says kind taken.1 })

-- a line that asks for something changes nothing
request_keeps : (before after : Option Served) (says : Result Meant FaultKind) (outcome : Outcome) → IsRequest outcome → Becomes before says outcome after → after ≡ before
request_keeps before after says Done asks becomes = absurd asks
request_keeps before after says Table asks becomes = becomes.1
request_keeps before after says (Peek peek) asks becomes = becomes.1
request_keeps before after says Explain asks becomes = becomes.1
request_keeps before after says Help asks becomes = absurd asks
request_keeps before after says (Fault kind) asks becomes = absurd asks
request_keeps before after says (Named fault) asks becomes = becomes.1
request_keeps before after says (Boot why) asks becomes = absurd asks
request_keeps before after says (Host why) asks becomes = absurd asks

-- where there is no memory for it, that is the host's refusal
pub told_becomes : (before : Option Served) (says : Result Meant FaultKind) (bench : Option Bench) (outcome told : Outcome) → HasBecome before says outcome bench → IsToldAs outcome told
    → HasBecome before says told bench
told_becomes before says bench outcome told is (inl same) = subst (λ (o : Outcome). HasBecome before says o bench) (sym same) is
told_becomes before says bench outcome told is (inr lost) =
    subst (λ (o : Outcome). HasBecome before says o bench) (sym lost.1)
    (record { after = is.after; stands = is.stands; becomes = inl (refl, request_keeps before is.after says outcome lost.0 is.becomes) })

-- the machine is the one that was served
pub same_kept : (bench : Option Bench) (served : Option Served) → StandsFor bench served → kept_in bench ≡ kept_of served
same_kept None None stands = refl
same_kept None (Some served) stands = absurd stands
same_kept (Some bench) None stands = absurd stands
same_kept (Some bench) (Some served) stands = ap Some stands.kept
