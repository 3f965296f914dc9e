-- What an entry asks of the principals of one kind: a fixed answer, or a pattern of their ids.
use Rattle.std.specs.Prelude.{ℕ, List, [], ◌∷◌, ◌++◌, Bool, true, false, Option, Some, None, codes, if◌then◌else◌}
use Rattle.wildcard_lang.specs.declared.piece.Piece.{Piece}
use Rattle.wildcard_lang.specs.declared.piece.Piece.TheVariants.{Lit, Many, ManyNoColon}
use Rattle.wildcard_lang.specs.Reading.{literals}
use Rattle.policy_model.specs.declared.principal.PrincipalKind.{PrincipalKind}
use Rattle.policy_model.specs.declared.principal.PrincipalKind.TheVariants.{Aws, Service, Federated, CanonicalUser}
use Rattle.policy_model.specs.declared.principal.Entry.{Entry}
use Rattle.policy_model.specs.declared.principal.Entry.TheVariants.{All, Kind, Account, Exact}

-- whether the kinds are the same
abbrev pub is_kind : PrincipalKind → PrincipalKind → Bool
is_kind Aws Aws = true
is_kind Service Service = true
is_kind Federated Federated = true
is_kind CanonicalUser CanonicalUser = true
is_kind j k = false

-- the answer that the entry gives to every principal of the kind, where it is the same for all of them
abbrev pub fixed_answer : PrincipalKind → Entry → Option Bool
fixed_answer k All = Some true
fixed_answer k (Kind kind) = Some (is_kind k kind)
fixed_answer k (Account account) = (if is_kind k Aws then None else Some false)
fixed_answer k (Exact kind id) = (if is_kind k kind then None else Some false)

-- a part of an ARN that may be any text without a colon, with the colon behind it
abbrev pub any_part : List Piece
any_part = ManyNoColon ∷ Lit 58 ∷ []

-- the pattern of the ids of an account: `arn:*:*:*:ACCOUNT:*`, of which the first three wildcards take no colon
abbrev pub account_pattern : List ℕ → List Piece
account_pattern account =
    literals false (codes "arn:") ++ (any_part ++ (any_part ++ (any_part ++ (literals false account ++ Lit 58 ∷ Many ∷ []))))

-- the pattern that the entry asks the ids of a kind to match where it has no fixed answer
abbrev pub entry_pattern : Entry → Option (List Piece)
entry_pattern All = None
entry_pattern (Kind kind) = None
entry_pattern (Account account) = Some (account_pattern account)
entry_pattern (Exact kind id) = Some (literals false id)
