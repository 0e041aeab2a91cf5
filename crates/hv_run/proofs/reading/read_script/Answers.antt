use Rattle.std.proofs.Common.{◌≡◌, ℕ, List, [], ◌++◌, take, Option, Some, None, IfSome, option_map}
use Rattle.hv_run.proofs.reading.read_script.Goals as goal

-- what a reader up to a limit gives is the reader's bytes up to that limit
taken : (limit : ℕ) (known : Option (List ℕ)) (items : List ℕ) → IfSome (option_map (take limit) known) (λ xs. items ≡ [] ++ xs) → IfSome known (λ text. items ≡ take limit text)
taken limit None items read = tt
taken limit (Some text) items read = read

pub returns : goal.returns
returns g c =
    taken 1048577 _ _ (rw (c.take.ensures.inner, c.take.ensures.limit, c.new-script.ensures.items) at c.in_ok-read_to_end.ensures.bytes)
