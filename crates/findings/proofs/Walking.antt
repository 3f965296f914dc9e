-- The walk finds the summary: what it looks at must be looked at, and it looks at all that must be.
use Rattle.std.proofs.Common.{◌≢◌, ◌⊎◌, ℕ, zero, suc, ◌<◌, List, [], ◌∷◌, ◌++◌, inl, inr, refl, sym, subst, arith}
use Rattle.std.specs.Prelude.{Contains, All, AllPairs}
use Rattle.std.proofs.lemmas.List.Elements.{All-contains, All-map, All-weaker, Contains-append_cases, Contains-append_left, Contains-append_right, Contains-get_or, Contains-push, Contains-push_cases}
use Rattle.std.proofs.lemmas.List.Quantifiers.{all_pairs_push}
use Rattle.formula_tree.proofs.Laws.{cases_eq}
use Rattle.policy_model.specs.declared.schema.Schema.{Schema}
use Rattle.policy_model.specs.declared.request.Request.{Request}
use Rattle.strata.specs.declared.stratum.Stratum.{Stratum}
use Rattle.findings.specs.declared.region.Region.{Region}
use Rattle.findings.specs.Queries.{numbers_below}
use Rattle.findings.specs.Findings.{HasNobody, IsFinding, IsIrreducible, IsStrictlyFiner}
use Rattle.findings.specs.Steps.{IsRightUnder}
use Rattle.findings.specs.Summaries.{IsMaximal, MustBeVisited, findings_of}
use Rattle.findings.specs.Walks.{AreAboveIn, IsCared, IsFoundFinding, IsWalk, first_finding}
use Rattle.findings.proofs.Orders.{AllHaveSteps, above-finding, lies-above, rank_of, ranks-fall, same-or-not, step-above, strictly-finer, under-finer, zeros-above, zeros-finding}

both-or-not : {P Q : Type 0} → P ⊎ ¬ P → Q ⊎ ¬ Q → (P × Q) ⊎ ¬ (P × Q)
both-or-not (inl p) (inl q) = inl (p, q)
both-or-not (inl p) (inr never) = inr (λ h. never h.1)
both-or-not (inr never) q = inr (λ h. never h.0)

either-or-not : {P Q : Type 0} → P ⊎ ¬ P → Q ⊎ ¬ Q → (P ⊎ Q) ⊎ ¬ (P ⊎ Q)
either-or-not (inl p) q = inl (inl p)
either-or-not (inr never) (inl q) = inl (inr q)
either-or-not (inr never) (inr none) = inr (λ h. elim h [ inl p ↦ never p | inr q ↦ none q ])

-- a number of a list, or not
among-or-not : (xs : List ℕ) (x : ℕ) → Contains xs x ⊎ ¬ Contains xs x
among-or-not [] x = inr (λ h. omega (arith, h.1))
among-or-not (y ∷ xs) x = elim (cases_eq y x) [
  | inl same ↦ inl (0, omega arith, same)
  | inr differ ↦ elim (among-or-not xs x) [
    | inl later ↦ inl (Contains-append_right (y ∷ []) xs x later)
    | inr none ↦ inr (λ h. elim (Contains-append_cases (y ∷ []) xs x h) [
      | inl first ↦ elim (Contains-push_cases [] y x first) [ inl no_one ↦ omega (arith, no_one.1) | inr same ↦ differ same ]
      | inr later ↦ none later
    ])
  ]
]

-- a finding is right under another, or it isn't
under-or-not : (ds : List Stratum) (g f : List ℕ) → IsRightUnder ds g f ⊎ ¬ IsRightUnder ds g f
under-or-not [] g f = inr (λ h. h)
under-or-not (d ∷ ds) [] f = inr (λ h. h)
under-or-not (d ∷ ds) (m ∷ g) [] = inr (λ h. h)
under-or-not (d ∷ ds) (m ∷ g) (n ∷ f) = either-or-not (both-or-not (among-or-not (numbers_below d n) m) (same-or-not g f)) (both-or-not (cases_eq m n) (under-or-not ds g f))

module _ (schema : Schema) (region : Region) (ds : List Stratum) (steps : AllHaveSteps schema ds) where
  -- a finding must be looked at where each one that it is right under must be, and has no request of its own
  pub visited-below : (f : List ℕ) → IsFinding ds f → ((g : List ℕ) → IsRightUnder ds f g → MustBeVisited schema region ds g × ¬ IsIrreducible schema region ds g) → MustBeVisited schema region ds f
  visited-below f is above = record {
    finding = is;
    none_above = λ g is_g strict irreducible.
        let step = step-above schema ds steps f g is is_g strict in
        let known = above step.above step.under in
        elim (same-or-not step.above g) [
          | inl same ↦ known.1 (subst (IsIrreducible schema region ds) (sym same) irreducible)
          | inr differ ↦ known.0.none_above g is_g (step.most, differ) irreducible
        ];
  }

  -- and where one must be, each finding above must be, and has none
  pub visited-above : (f g : List ℕ) → MustBeVisited schema region ds f → IsFinding ds g → IsStrictlyFiner schema ds f g → MustBeVisited schema region ds g
  visited-above f g v is_g strict = record {
    finding = is_g;
    none_above = λ h is_h more. v.none_above h is_h (strictly-finer schema ds steps f g h v.finding is_g strict more.0);
  }

  -- the first finding must be looked at
  pub visited-first : MustBeVisited schema region ds (first_finding ds)
  visited-first = visited-below (first_finding ds) (zeros-finding schema ds steps) (λ g at.
      let strict = under-finer schema ds steps (first_finding ds) g at in
      let is_g = above-finding schema ds steps (first_finding ds) g at (zeros-finding schema ds steps) in
      let back = strictly-finer schema ds steps (first_finding ds) g (first_finding ds) (zeros-finding schema ds steps) is_g strict (zeros-above schema ds steps g) in
      absurd (back.1 refl))

  -- what was found is irreducible
  pub found-irreducible : (looked : List (List ℕ)) (found : List (List ℕ × Request)) → All (IsFoundFinding schema region ds looked) found → All (IsIrreducible schema region ds) (findings_of found)
  found-irreducible looked found own = All-map (IsIrreducible schema region ds) (λ p. p.0) found (All-weaker (IsFoundFinding schema region ds looked) (λ p. IsIrreducible schema region ds p.0) (λ p h. (p.1, h.1)) found own)

  module _ (looked reducible : List (List ℕ)) (found : List (List ℕ × Request)) (walk : IsWalk schema region ds [] looked reducible found) where
    none-coming : (f : List ℕ) → ¬ Contains [] f
    none-coming f h = omega (arith, h.1)

    -- a finding that was looked at and that has an irreducible one under it that must be looked at has no request of its own
    is-reducible : (f g : List ℕ) → MustBeVisited schema region ds f → IsFinding ds g → IsStrictlyFiner schema ds f g → Contains looked g → Contains reducible g
    is-reducible f g v is_g strict seen = elim (walk.either g seen) [
      | inl here ↦ here
      | inr there ↦ absurd (v.none_above g is_g strict (All-contains (IsIrreducible schema region ds) (findings_of found) g (found-irreducible looked found walk.own) there))
    ]

    -- where somebody is allowed something in a finding, somebody is in each one above
    somebody-above : (f g : List ℕ) → IsFinding ds f → IsStrictlyFiner schema ds f g → ¬ HasNobody schema region ds f → ¬ HasNobody schema region ds g
    somebody-above f g is strict some none = some (λ r valid allowed lies. none r valid allowed (lies-above schema r valid ds f g is strict.0 lies))

    -- at the end of the walk all that must be looked at, and in which somebody is allowed something, has been: those that stand no
    -- lower than so deep
    pub all-looked : (deep : ℕ) (f : List ℕ) → rank_of schema ds steps f < deep → MustBeVisited schema region ds f → ¬ HasNobody schema region ds f → Contains looked f
    all-looked zero f few v some = absurd (omega (arith, few))
    all-looked (suc deep) f few v some = elim (same-or-not f (first_finding ds)) [
      | inl same ↦ elim walk.start [ inl seen ↦ subst (Contains looked) (sym same) seen | inr coming ↦ absurd (none-coming (first_finding ds) coming) ]
      | inr differ ↦ (
          let above : AreAboveIn ds reducible f = λ g at. (
          let is_g = above-finding schema ds steps f g at v.finding in
          let strict = under-finer schema ds steps f g at in
          let lower = ranks-fall schema ds steps f g v.finding is_g strict in
          is-reducible f g v is_g strict (all-looked deep g (omega (arith, few, lower)) (visited-above f g v is_g strict) (somebody-above f g v.finding strict some))) in
          let first = step-above schema ds steps f (first_finding ds) v.finding (zeros-finding schema ds steps) (zeros-above schema ds steps f, differ) in
          elim (walk.cared f first.above (above first.above first.under) first.under) [
            | inl seen ↦ seen
            | inr later ↦ elim later [ inl coming ↦ absurd (none-coming f coming) | inr more ↦ elim more [ inl missing ↦ absurd (missing above) | inr none ↦ absurd (some none) ] ]
          ]
          )
    ]

    -- so each maximal irreducible finding was found
    pub all-found : (f : List ℕ) → IsMaximal schema region ds f → Contains (findings_of found) f
    all-found f m =
        let seen = all-looked (suc (rank_of schema ds steps f)) f (omega arith) (record { finding = m.finding; none_above = m.none_above }) (λ none. none m.irreducible.0 m.irreducible.1.valid m.irreducible.1.allowed m.irreducible.1.lies) in
        elim (walk.either f seen) [ inl reducible ↦ absurd ((walk.unmet f reducible).1 m.irreducible) | inr there ↦ there ]

    -- and nothing else
    pub found-maximal : All (IsMaximal schema region ds) (findings_of found)
    found-maximal = All-map (IsMaximal schema region ds) (λ p. p.0) found (All-weaker (IsFoundFinding schema region ds looked) (λ p. IsMaximal schema region ds p.0) (λ p h. (
        let v = walk.visited p.0 h.0 in
        record { finding = v.finding; irreducible = (p.1, h.1); none_above = v.none_above })) found walk.own)

  -- ---- steps of a walk

  -- at the start
  pub walk-start : IsWalk schema region ds (first_finding ds ∷ []) [] [] []
  walk-start = record {
    next = λ f h. elim (Contains-push_cases [] (first_finding ds) f h) [ inl none ↦ absurd (omega (arith, none.1)) | inr same ↦ subst (IsFinding ds) same (zeros-finding schema ds steps) ];
    visited = λ f h. absurd (omega (arith, h.1));
    different = λ i j d less within. absurd (omega (arith, within));
    unmet = λ f h. absurd (omega (arith, h.1));
    own = λ i d within. absurd (omega (arith, within));
    either = λ f h. absurd (omega (arith, h.1));
    cared = λ f g h at. absurd (omega (arith, h.1));
    start = inr (0, omega arith, refl);
  }

  -- nothing is above the first finding
  first-alone : (g : List ℕ) → IsRightUnder ds (first_finding ds) g → ⊥
  first-alone g at =
      let strict = under-finer schema ds steps (first_finding ds) g at in
      let is_g = above-finding schema ds steps (first_finding ds) g at (zeros-finding schema ds steps) in
      let back = strictly-finer schema ds steps (first_finding ds) g (first_finding ds) (zeros-finding schema ds steps) is_g strict (zeros-above schema ds steps g) in
      back.1 refl

  module _ (rest looked reducible : List (List ℕ)) (found : List (List ℕ × Request)) (f : List ℕ) (walk : IsWalk schema region ds (rest ++ f ∷ []) looked reducible found) where
    -- one that was looked at, or that is right under one that isn't known to have no request, is passed over
    pub walk-skip : Contains looked f ⊎ ¬ AreAboveIn ds reducible f → IsWalk schema region ds rest looked reducible found
    walk-skip why = record {
      next = λ h there. walk.next h (Contains-append_left rest (f ∷ []) h there);
      visited = walk.visited;
      different = walk.different;
      unmet = walk.unmet;
      own = walk.own;
      either = walk.either;
      cared = λ h g there at. elim (walk.cared h g there at) [
        | inl seen ↦ inl seen
        | inr later ↦ elim later [
          | inl coming ↦ elim (Contains-push_cases rest f h coming) [
            | inl before ↦ inr (inl before)
            | inr same ↦ subst (IsCared schema region ds rest looked reducible) same (elim why [ inl seen ↦ inl seen | inr missing ↦ inr (inr (inl missing)) ])
          ]
          | inr more ↦ inr (inr more)
        ]
      ];
      start = elim walk.start [
        | inl seen ↦ inl seen
        | inr coming ↦ elim (Contains-push_cases rest f (first_finding ds) coming) [
          | inl before ↦ inr before
          | inr same ↦ elim why [
            | inl seen ↦ inl (subst (Contains looked) same seen)
            | inr missing ↦ absurd (missing (λ g at. absurd (first-alone g (subst (λ (x : List ℕ). IsRightUnder ds x g) same at))))
          ]
        ]
      ];
    }

    module _ (new : ¬ Contains looked f) (above : AreAboveIn ds reducible f) where
      -- the finding must be looked at
      pub taken-visited : MustBeVisited schema region ds f
      taken-visited = visited-below f (walk.next f (Contains-push rest f)) (λ g at. (walk.visited g (walk.unmet g (above g at)).0, (walk.unmet g (above g at)).1))

      -- each that was looked at, and this one, must be
      looked-visited : (g : List ℕ) → Contains (looked ++ f ∷ []) g → MustBeVisited schema region ds g
      looked-visited g h = elim (Contains-push_cases looked f g h) [ inl before ↦ walk.visited g before | inr same ↦ subst (MustBeVisited schema region ds) same taken-visited ]

      looked-different : AllPairs (λ g h. g ≢ h) (looked ++ f ∷ [])
      looked-different = all_pairs_push (λ g h. g ≢ h) looked f walk.different (λ k d within same. new (subst (Contains looked) same (Contains-get_or looked k d within)))

      -- it was one that may come next, or is cared for as before
      still-cared : (coming more : List (List ℕ)) → ((g : List ℕ) → Contains rest g → Contains coming g) → (h : List ℕ) → IsCared schema region ds (rest ++ f ∷ []) looked reducible h → (¬ AreAboveIn ds reducible h → IsCared schema region ds coming (looked ++ f ∷ []) more h) → IsCared schema region ds coming (looked ++ f ∷ []) more h
      still-cared coming more grows h care other = elim care [
        | inl seen ↦ inl (Contains-append_left looked (f ∷ []) h seen)
        | inr later ↦ elim later [
          | inl there ↦ elim (Contains-push_cases rest f h there) [
            | inl before ↦ inr (inl (grows h before))
            | inr same ↦ inl (subst (Contains (looked ++ f ∷ [])) same (Contains-push looked f))
          ]
          | inr further ↦ elim further [ inl missing ↦ other missing | inr none ↦ inr (inr (inr none)) ]
        ]
      ]

      still-start : (coming : List (List ℕ)) → ((g : List ℕ) → Contains rest g → Contains coming g) → Contains (looked ++ f ∷ []) (first_finding ds) ⊎ Contains coming (first_finding ds)
      still-start coming grows = elim walk.start [
        | inl seen ↦ inl (Contains-append_left looked (f ∷ []) (first_finding ds) seen)
        | inr there ↦ elim (Contains-push_cases rest f (first_finding ds) there) [
          | inl before ↦ inr (grows (first_finding ds) before)
          | inr same ↦ inl (subst (Contains (looked ++ f ∷ [])) same (Contains-push looked f))
        ]
      ]

      own-longer : All (IsFoundFinding schema region ds (looked ++ f ∷ [])) found
      own-longer = All-weaker (IsFoundFinding schema region ds looked) (IsFoundFinding schema region ds (looked ++ f ∷ [])) (λ p h. (Contains-append_left looked (f ∷ []) p.0 h.0, h.1)) found walk.own

      below-cared : (coming : List (List ℕ)) (h : List ℕ) → Contains coming h ⊎ HasNobody schema region ds h → IsCared schema region ds coming (looked ++ f ∷ []) (reducible ++ f ∷ []) h
      below-cared coming h (inl there) = inr (inl there)
      below-cared coming h (inr none) = inr (inr (inr none))

      -- it has no request of its own: those right under it in which somebody may be allowed something may come next
      pub walk-reducible : (coming : List (List ℕ)) → ¬ IsIrreducible schema region ds f → ((g : List ℕ) → Contains coming g → IsFinding ds g) → ((g : List ℕ) → Contains rest g → Contains coming g) → ((g : List ℕ) → IsRightUnder ds g f → Contains coming g ⊎ HasNobody schema region ds g) →
          IsWalk schema region ds coming (looked ++ f ∷ []) (reducible ++ f ∷ []) found
      walk-reducible coming unmet are grows under = record {
        next = are;
        visited = looked-visited;
        different = looked-different;
        unmet = λ g h. elim (Contains-push_cases reducible f g h) [
          | inl before ↦ (Contains-append_left looked (f ∷ []) g (walk.unmet g before).0, (walk.unmet g before).1)
          | inr same ↦ subst (λ (x : List ℕ). Contains (looked ++ f ∷ []) x × ¬ IsIrreducible schema region ds x) same (Contains-push looked f, unmet)
        ];
        own = own-longer;
        either = λ g h. elim (Contains-push_cases looked f g h) [
          | inl before ↦ elim (walk.either g before) [ inl red ↦ inl (Contains-append_left reducible (f ∷ []) g red) | inr there ↦ inr there ]
          | inr same ↦ inl (subst (Contains (reducible ++ f ∷ [])) same (Contains-push reducible f))
        ];
        cared = λ h g there at. elim (Contains-push_cases reducible f g there) [
          | inl before ↦ still-cared coming (reducible ++ f ∷ []) grows h (walk.cared h g before at) (λ missing. elim (under-or-not ds h f) [
            | inl right ↦ below-cared coming h (under h right)
            | inr apart ↦ inr (inr (inl (λ all. missing (λ x right. elim (Contains-push_cases reducible f x (all x right)) [
              | inl old ↦ old
              | inr same ↦ absurd (apart (subst (IsRightUnder ds h) (sym same) right))
            ]))))
          ])
          | inr same ↦ below-cared coming h (under h (subst (IsRightUnder ds h) (sym same) at))
        ];
        start = still-start coming grows;
      }

      -- it has one
      pub walk-irreducible : (more : List (List ℕ × Request)) → All (IsFoundFinding schema region ds (looked ++ f ∷ [])) more → ((g : List ℕ) → Contains (findings_of found) g → Contains (findings_of more) g) → Contains (findings_of more) f → IsWalk schema region ds rest (looked ++ f ∷ []) reducible more
      walk-irreducible more own grows there = record {
        next = λ g h. walk.next g (Contains-append_left rest (f ∷ []) g h);
        visited = looked-visited;
        different = looked-different;
        unmet = λ g h. (Contains-append_left looked (f ∷ []) g (walk.unmet g h).0, (walk.unmet g h).1);
        own = own;
        either = λ g h. elim (Contains-push_cases looked f g h) [
          | inl before ↦ elim (walk.either g before) [ inl red ↦ inl red | inr old ↦ inr (grows g old) ]
          | inr same ↦ inr (subst (Contains (findings_of more)) same there)
        ];
        cared = λ h g red at. still-cared rest reducible (λ x before. before) h (walk.cared h g red at) (λ missing. inr (inr (inl missing)));
        start = still-start rest (λ x before. before);
      }
