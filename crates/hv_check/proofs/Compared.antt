-- A line beside the policy's.
use Rattle.std.proofs.Common.{◌≡◌, ℕ, ◌+◌, ◌<◌, ◌≢◌, [], ◌∷◌, ◌++◌, refl, sym, ap, ◌∙◌, subst, arith, append_assoc, length, length-append, drop, get_or, Bool, true, false}
use Rattle.std.proofs.Common.{Option, None, Some, inl, inr, ◌⊎◌, All, codes, IfNone, IfSome, OnOk, Result, Ok, Err, is_some, nat_eq, Global}
use Rattle.std.specs.Cmp.Lexicographic.{bytes_decides, pointwise}
use Rattle.std.proofs.lemmas.Bool.{false≢true}
use Rattle.std.proofs.lemmas.List.{append_cancel_left}
use Rattle.std.proofs.lemmas.List.Elements.{All-head}
use Rattle.hv_history.specs.declared.entry.Entry.{Entry}
use Rattle.hv_policy.specs.Parts.{reply_of}
use Rattle.hv_policy.specs.Rule.{rule_name}
use Rattle.hv_policy.specs.declared.answer.Answer.{Answer}
use Rattle.hv_policy.specs.declared.answer.Answer.TheVariants as answer
use Rattle.hv_policy.specs.declared.reply.Reply.{Reply}
use Rattle.hv_policy.specs.declared.reply.Reply.TheVariants.{Served, More, Denied, Fault}
use Rattle.hv_policy.specs.declared.rule.Rule.{Rule}
use Rattle.hv_text.specs.Audit.{entry_text, reply_text, result_text}
use Rattle.hv_check.specs.Legal.{IsLine, IsName, IsTail, bare_reply_text, bare_text}
use Rattle.hv_check.specs.Parted.{IsAround, IsNowhere}
use Rattle.hv_check.specs.Tail.{IsBehindName, name_in}
use Rattle.hv_phases.proofs.LinesByPhase.{All-right}
use Rattle.hv_check.proofs.LineTexts.{Bytes, IsNot, bare_front, entry_front, front}

module _ {T : Type 0} where
  pub some_map : (o : Option T) (P Q : T → Type 0) → ((t : T) → P t → Q t) → IfSome o P → IfSome o Q
  some_map None P Q f is = tt
  some_map (Some t) P Q f is = f t is

  pub none_map : (o : Option T) (P Q : Type 0) → (P → Q) → IfNone o P → IfNone o Q
  none_map None P Q f is = f is
  none_map (Some t) P Q f is = tt

-- a text that begins with some bytes, and one that doesn't
pub begins : (text first rest bytes : Bytes) → text ≡ first ++ rest → first ≡ bytes → text ≡ bytes ++ rest
begins text first rest bytes all same = all ∙ ap (λ (l : Bytes). l ++ rest) same

pub begins_not : (text first rest bytes more : Bytes) → text ≡ first ++ rest → length first ≡ length bytes → (first ≡ bytes → ⊥) → text ≡ bytes ++ more → ⊥
begins_not text first rest bytes more all long other is = other (same first bytes rest more long (sym all ∙ is))
  where
    same : (xs ys us vs : Bytes) → length xs ≡ length ys → xs ++ us ≡ ys ++ vs → xs ≡ ys
    same [] [] us vs n is = refl
    same [] (y ∷ ys) us vs n is = absurd (omega (arith, n))
    same (x ∷ xs) [] us vs n is = absurd (omega (arith, n))
    same (x ∷ xs) (y ∷ ys) us vs n is =
        let first : x ≡ y = cc in
        let rest : xs ++ us ≡ ys ++ vs = cc in
        let count : length xs ≡ length ys = omega (arith, n) in
        (λ i. first i ∷ same xs ys us vs count rest i)

pub too_short : (text bytes more : Bytes) → length text < length bytes → text ≡ bytes ++ more → ⊥
too_short text bytes more less is = let n = ap length is in omega (arith, less, n, length-append bytes more)

-- the whole line is compared
pub line_some : (number : ℕ) (e : Entry Global) (text line rest : Bytes) → line ≡ entry_text number e ++ codes "\n" → text ≡ line ++ rest → text ≡ entry_text number e ++ (codes "\n" ++ rest)
line_some number e text line rest is all = all ∙ ap (λ (l : Bytes). l ++ rest) is ∙ append_assoc (entry_text number e) (codes "\n") rest

-- nothing stands in place of a rule's name where none was refused
abbrev IsPlain : ℕ → Entry Global → Type 0
IsPlain number e = (bare_text number e ≡ entry_text number e) × IsTail e.reply [] × ((tail : Bytes) → IsTail e.reply tail → tail ≡ [])

plain_reply : (number : ℕ) (e : Entry Global) (reply : Reply) → e.reply ≡ reply → bare_reply_text e.event.what reply ≡ reply_text e.event.what reply → IsTail reply [] →
    ((tail : Bytes) → IsTail reply tail → tail ≡ []) → IsPlain number e
plain_reply number e reply is same none only = (
  bare_front number e ∙ ap (λ (r : Reply). front number e ++ bare_reply_text e.event.what r) is ∙ ap (λ (l : Bytes). front number e ++ l) same
      ∙ ap (λ (r : Reply). front number e ++ reply_text e.event.what r) (sym is) ∙ sym (entry_front number e),
  subst (λ (r : Reply). IsTail r []) (sym is) none,
  subst (λ (r : Reply). (tail : Bytes) → IsTail r tail → tail ≡ []) (sym is) only,
)

plain_of : (number : ℕ) (e : Entry Global) (a : Answer) (output : Bytes) → name_in a ≡ None → e.reply ≡ reply_of a output → IsPlain number e
plain_of number e answer.Served output none is = plain_reply number e (Served output) is refl refl (λ tail t. t)
plain_of number e (answer.More next) output none is = plain_reply number e (More next output) is refl refl (λ tail t. t)
plain_of number e (answer.Denied rule status reps) output none is = absurd (cc)
plain_of number e (answer.Fault rule) output none is = absurd (cc)

pub plain_some : (rules : Bool) (number : ℕ) (e : Entry Global) (a : Answer) (output text line rest : Bytes) → (rules ≡ true) ⊎ (name_in a ≡ None) → line ≡ entry_text number e ++ codes "\n" → e.reply
    ≡ reply_of a output → text ≡ line ++ rest
    → IsLine rules number e text rest
plain_some true number e a output text line rest plain is reply all = line_some number e text line rest is all
plain_some false number e a output text line rest (inl off) is reply all = absurd (cc)
plain_some false number e a output text line rest (inr none) is reply all =
    let plain = plain_of number e a output none reply in
    record { tail = []; name = plain.1; all = line_some number e text line rest is all ∙ ap (λ (l : Bytes). l ++ (codes "\n" ++ rest)) (sym plain.0) }

pub plain_none : (rules : Bool) (number : ℕ) (e : Entry Global) (a : Answer) (output text line : Bytes) → (rules ≡ true) ⊎ (name_in a ≡ None) → line ≡ entry_text number e ++ codes "\n" → e.reply ≡
    reply_of a output
    → ((rest : Bytes) → text ≡ line ++ rest → ⊥) → (rest : Bytes) → IsLine rules number e text rest → ⊥
plain_none true number e a output text line plain is reply none rest all =
    none rest (all ∙ sym (append_assoc (entry_text number e) (codes "\n") rest) ∙ ap (λ (l : Bytes). l ++ rest) (sym is))
plain_none false number e a output text line (inl off) is reply none rest all = absurd (cc)
plain_none false number e a output text line (inr plain_is) is reply none rest all =
    let plain = plain_of number e a output plain_is reply in
    let tail : all.tail ≡ [] = plain.2 all.tail all.name in
    none rest
    (
    all.all ∙ (λ i. plain.0 i ++ (tail i ++ (codes "\n" ++ rest))) ∙ sym (append_assoc (entry_text number e) (codes "\n") rest)
    ∙ ap (λ (l : Bytes). l ++ rest) (sym is)
    )

-- a rule that refused has a name at the end of the line
record IsNamedBy (number : ℕ) (e : Entry Global) (rule : Rule) : Type 0 where
  all : entry_text number e ≡ bare_text number e ++ (codes " " ++ rule_name rule)
  to : (tail : Bytes) → IsName tail → IsTail e.reply tail
  from : (tail : Bytes) → IsTail e.reply tail → IsName tail

named_reply : (number : ℕ) (e : Entry Global) (rule : Rule) (reply : Reply) → e.reply ≡ reply → reply_text e.event.what reply ≡ bare_reply_text e.event.what reply ++ (codes " " ++ rule_name rule)
    → ((tail : Bytes) → IsName tail → IsTail reply tail) → ((tail : Bytes) → IsTail reply tail → IsName tail) → IsNamedBy number e rule
named_reply number e rule reply is same there back = record {
  all =
      entry_front number e ∙ ap (λ (r : Reply). front number e ++ reply_text e.event.what r) is ∙ ap (λ (l : Bytes). front number e ++ l) same
      ∙ sym (append_assoc (front number e) (bare_reply_text e.event.what reply) (codes " " ++ rule_name rule))
      ∙ ap (λ (l : Bytes). l ++ (codes " " ++ rule_name rule)) (ap (λ (r : Reply). front number e ++ bare_reply_text e.event.what r) (sym is) ∙ sym (bare_front number e));
  to = subst (λ (r : Reply). (tail : Bytes) → IsName tail → IsTail r tail) (sym is) there;
  from = subst (λ (r : Reply). (tail : Bytes) → IsTail r tail → IsName tail) (sym is) back;
}

named_of : (number : ℕ) (e : Entry Global) (a : Answer) (rule : Rule) (output : Bytes) → name_in a ≡ Some rule → e.reply ≡ reply_of a output → IsNamedBy number e rule
named_of number e answer.Served rule output some is = absurd (cc)
named_of number e (answer.More next) rule output some is = absurd (cc)
named_of number e (answer.Denied r status reps) rule output some is =
    let same : r ≡ rule = cc in
    subst (IsNamedBy number e) same
    (named_reply number e r (Denied r status reps) is (append_assoc (codes "denied" ++ result_text e.event.what (Denied r status reps)) (codes " ") (rule_name r)) (λ tail t. t) (λ tail t. t))
named_of number e (answer.Fault r) rule output some is =
    let same : r ≡ rule = cc in subst (IsNamedBy number e) same (named_reply number e r (Fault r) is refl (λ tail t. t) (λ tail t. t))

-- the line without the name of its rule, and how much was left out
pub bare_line : (number : ℕ) (e : Entry Global) (a : Answer) (rule : Rule) (output line : Bytes) → name_in a ≡ Some rule → line ≡ entry_text number e ++ codes "\n" → e.reply ≡ reply_of a output
    → line ≡ bare_text number e ++ (codes " " ++ rule_name rule ++ codes "\n")
bare_line number e a rule output line some is reply =
    is ∙ ap (λ (l : Bytes). l ++ codes "\n") (named_of number e a rule output some reply).all ∙ append_assoc (bare_text number e) (codes " " ++ rule_name rule) (codes "\n")

pub name_length : (name : Bytes) → length (codes " " ++ name ++ codes "\n") ≡ length name + 2
name_length name = omega (arith, length-append name (codes "\n"))

pub named_some : (rules : Bool) (number : ℕ) (e : Entry Global) (a : Answer) (rule : Rule) (output text bare mid rest : Bytes) → rules ≡ false → name_in a ≡ Some rule → e.reply ≡ reply_of a output →
    bare ≡ bare_text number e → text ≡ bare ++ mid
    → IsBehindName mid rest → IsLine rules number e text rest
named_some true number e a rule output text bare mid rest off some reply is all name = absurd (cc)
named_some false number e a rule output text bare mid rest off some reply is all name = record {
  tail = name.tail;
  name = (named_of number e a rule output some reply).to name.tail name.name;
  all = all ∙ (λ i. is i ++ name.all i);
}

pub named_none : (rules : Bool) (number : ℕ) (e : Entry Global) (a : Answer) (rule : Rule) (output text bare : Bytes) → rules ≡ false → name_in a ≡ Some rule → e.reply ≡ reply_of a output → bare ≡
    bare_text number e
    → ((mid rest : Bytes) → text ≡ bare ++ mid → IsBehindName mid rest → ⊥) → (rest : Bytes) → IsLine rules number e text rest → ⊥
named_none true number e a rule output text bare off some reply is none rest line = absurd (cc)
named_none false number e a rule output text bare off some reply is none rest line =
    none (line.tail ++ (codes "\n" ++ rest)) rest (line.all ∙ ap (λ (l : Bytes). l ++ (line.tail ++ (codes "\n" ++ rest))) (sym is))
    (record { tail = line.tail; name = (named_of number e a rule output some reply).from line.tail line.name; all = refl })

-- what stands behind a name
pub behind_none : (text rest : Bytes) → text ≡ 10 ∷ rest → IsBehindName text rest
behind_none text rest is = record { tail = []; name = inl refl; all = is }

pub behind_some : (text more before rest : Bytes) → text ≡ 32 ∷ more → IsAround 10 more before rest → IsBehindName text rest
behind_some text more before rest is around =
    record { tail = 32 ∷ before; name = inr (before, refl, around.first); all = is ∙ ap (λ (l : Bytes). 32 ∷ l) around.all }

pub behind_nowhere : (text more : Bytes) → text ≡ 32 ∷ more → IsNowhere 10 more → (rest : Bytes) → IsBehindName text rest → ⊥
behind_nowhere text more is none rest behind = by behind.tail behind.name behind.all
  where
    by : (tail : Bytes) → IsName tail → text ≡ tail ++ (10 ∷ rest) → ⊥
    by tail (inl empty) all = let same : 32 ∷ more ≡ 10 ∷ rest = sym is ∙ all ∙ ap (λ (l : Bytes). l ++ 10 ∷ rest) empty in let byte : ◌≡◌ {A = ℕ} 32 10 = cc in absurd (omega (arith, byte))
    by tail (inr some) all =
        let same : 32 ∷ more ≡ 32 ∷ (some.0 ++ 10 ∷ rest) = sym is ∙ all ∙ ap (λ (l : Bytes). l ++ 10 ∷ rest) some.1 in
        let rest_is : more ≡ some.0 ++ 10 ∷ rest = cc in
        All-head (IsNot 10) 10 rest (All-right (IsNot 10) some.0 (10 ∷ rest) (subst (IsNowhere 10) rest_is none)) refl

pub behind_other : (c : ℕ) (more rest : Bytes) → c ≢ 10 → c ≢ 32 → IsBehindName (c ∷ more) rest → ⊥
behind_other c more rest no_feed no_space behind = by behind.tail behind.name behind.all
  where
    by : (tail : Bytes) → IsName tail → c ∷ more ≡ tail ++ (10 ∷ rest) → ⊥
    by tail (inl empty) all = no_feed (let same : c ∷ more ≡ 10 ∷ rest = all ∙ ap (λ (l : Bytes). l ++ 10 ∷ rest) empty in cc)
    by tail (inr some) all = no_space (let same : c ∷ more ≡ 32 ∷ (some.0 ++ 10 ∷ rest) = all ∙ ap (λ (l : Bytes). l ++ 10 ∷ rest) some.1 in cc)

pub behind_empty : (rest : Bytes) → IsBehindName [] rest → ⊥
behind_empty rest behind = by behind.tail behind.all
  where
    by : (tail : Bytes) → [] ≡ tail ++ (10 ∷ rest) → ⊥
    by [] all = cc
    by (x ∷ tail) all = cc

-- a text by its first byte
first_byte : (text : Bytes) (k : ℕ) → 0 < length text → get_or text 0 0 ≡ k → text ≡ k ∷ drop 1 text
first_byte [] k some is = absurd (omega (arith, some))
first_byte (c ∷ more) k some is = λ i. is i ∷ more

pub feed_behind : (text rest : Bytes) → 0 < length text → get_or text 0 0 ≡ 10 → rest ≡ drop 1 text → IsBehindName text rest
feed_behind text rest some is same = behind_none text rest (first_byte text 10 some is ∙ ap (λ (l : Bytes). 10 ∷ l) (sym same))

pub space_behind : (text more before rest : Bytes) → 0 < length text → get_or text 0 0 ≡ 32 → more ≡ drop 1 text → IsAround 10 more before rest → IsBehindName text rest
space_behind text more before rest some is same around = behind_some text more before rest (first_byte text 32 some is ∙ ap (λ (l : Bytes). 32 ∷ l) (sym same)) around

pub space_nowhere : (text more : Bytes) → 0 < length text → get_or text 0 0 ≡ 32 → more ≡ drop 1 text → IsNowhere 10 more → (rest : Bytes) → IsBehindName text rest → ⊥
space_nowhere text more some is same none = behind_nowhere text more (first_byte text 32 some is ∙ ap (λ (l : Bytes). 32 ∷ l) (sym same)) none

pub other_behind : (text : Bytes) → 0 < length text → get_or text 0 0 ≢ 10 → get_or text 0 0 ≢ 32 → (rest : Bytes) → IsBehindName text rest → ⊥
other_behind [] some no_feed no_space rest behind = omega (arith, some)
other_behind (c ∷ more) some no_feed no_space rest behind = behind_other c more rest no_feed no_space behind

pub none_behind : (text : Bytes) → length text ≡ 0 → (rest : Bytes) → IsBehindName text rest → ⊥
none_behind [] none rest behind = behind_empty rest behind
none_behind (c ∷ more) none rest behind = absurd (omega (arith, none))

module _ {T E : Type 0} where
  pub ok_map : (r : Result T E) (P Q : Type 0) → (P → Q) → OnOk r P → OnOk r Q
  ok_map (Ok t) P Q f is = f is
  ok_map (Err e) P Q f is = tt

pub none_if : {T : Type 0} (o : Option T) (b : Bool) (P : Type 0) → b ≡ is_some o → b ≡ false → IfNone o P → P
none_if None b P is no_one p = p
none_if (Some t) b P is no_one p = absurd (false≢true (sym no_one ∙ is))

-- the last line of an audit, part by part
pub end_cancel : (text count feed digits rest : Bytes) → text ≡ codes "events " ++ count → count ≡ digits ++ feed → text ≡ ((codes "events " ++ digits) ++ codes "\n") ++ rest → feed ≡ codes "\n" ++
    rest
end_cancel text count feed digits rest one two all =
    append_cancel_left digits feed (codes "\n" ++ rest)
    (sym two ∙ append_cancel_left (codes "events ") count (digits ++ (codes "\n" ++ rest)) (sym one ∙ all ∙ regroup (codes "events ") digits (codes "\n") rest))
  where
    regroup : (a b c d : Bytes) → ((a ++ b) ++ c) ++ d ≡ a ++ (b ++ (c ++ d))
    regroup a b c d = simp append_assoc

-- two rests behind one front
pub same_mid : (text bare mid other : Bytes) → text ≡ bare ++ mid → text ≡ bare ++ other → other ≡ mid
same_mid text bare mid other one two = append_cancel_left bare other mid (sym two ∙ one)

-- a text is equal to itself
pub same_bytes : (xs ys : Bytes) → xs ≡ ys → pointwise nat_eq xs ys ≡ true
same_bytes xs ys is = (bytes_decides xs ys).1 is

pub some_bytes : (text : Bytes) (b : Bool) → b ≡ nat_eq (length text) 0 → b ≡ false → 0 < length text
some_bytes [] b is none = absurd (false≢true (sym none ∙ is))
some_bytes (c ∷ more) b is none = omega arith
