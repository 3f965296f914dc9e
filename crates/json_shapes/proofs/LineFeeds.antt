-- A line feed behind a text that was printed.
use Rattle.std.proofs.Common.{◌≡◌, ℕ, Bool, true, false, cond, ◌&&◌, List, [], ◌∷◌, ◌++◌, refl, sym, ap, ap₂, ◌∙◌, append_assoc}
use Rattle.json.specs.Token.{Token, begin_object, end_object, begin_array, end_array, key, string, number, boolean, null, bad}
use Rattle.json.specs.Word.{ends_word, word}
use Rattle.json.specs.Lex.{Lexeme, token, comma, colon, string_token, lex, between, fresh, punctuate, tokens}
use Rattle.json.specs.Print.{escape, quoted, token_text, begins, ends, separator, print_from, print, IsPrintable, ArePrintable}
use Rattle.json.proofs.Printed.Strings.{content-escape, lex-escape}
use Rattle.json.proofs.Printed.Numbers.{lex-number, in_word-ended}

abbrev feed : List ℕ
feed = 10 ∷ []

-- the lexemes of a token
abbrev lexemes : Token → List Lexeme
lexemes begin_object = token begin_object ∷ []
lexemes end_object = token end_object ∷ []
lexemes begin_array = token begin_array ∷ []
lexemes end_array = token end_array ∷ []
lexemes (key s) = token (string s) ∷ colon ∷ []
lexemes (string s) = token (string s) ∷ []
lexemes (number s) = token (number s) ∷ []
lexemes (boolean b) = token (boolean b) ∷ []
lexemes null = token null ∷ []
lexemes bad = []

lex-quoted : (s r : List ℕ) → lex between (quoted s ++ r) ≡ token (string s) ∷ lex between r
unfolding lex
lex-quoted s r =
    ap (λ l. lex between (34 ∷ l)) (append_assoc (escape s) (34 ∷ []) r) ∙ ap₂ (λ o l. token (string_token o) ∷ l) (content-escape s r) (lex-escape s r)

lex-text : (t : Token) (r : List ℕ) → IsPrintable t → (ends t ≡ true → ends_word r ≡ true) → lex between (token_text t ++ r) ≡ lexemes t ++ lex between r
unfolding lex word
lex-text begin_object r h ended = refl
lex-text end_object r h ended = refl
lex-text begin_array r h ended = refl
lex-text end_array r h ended = refl
lex-text (key s) r h ended = ap (lex between) (append_assoc (quoted s) (58 ∷ []) r) ∙ lex-quoted s (58 ∷ r)
lex-text (string s) r h ended = lex-quoted s r
lex-text (number s) r h ended = lex-number s r h (ended refl)
lex-text (boolean true) r h ended = ap₂ (λ b l. token (cond b (boolean true) bad) ∷ l) (ended refl) (in_word-ended r (ended refl))
lex-text (boolean false) r h ended = ap₂ (λ b l. token (cond b (boolean false) bad) ∷ l) (ended refl) (in_word-ended r (ended refl))
lex-text null r h ended = ap₂ (λ b l. token (cond b null bad) ∷ l) (ended refl) (in_word-ended r (ended refl))
lex-text bad r h ended = absurd h

lex-separator : (b : Bool) (r : List ℕ) → lex between (cond b (44 ∷ []) [] ++ r) ≡ cond b (comma ∷ []) [] ++ lex between r
unfolding lex
lex-separator true r = refl
lex-separator false r = refl

-- after a value stands a comma, a closing bracket or the end
ended : (ts : List Token) → ends_word (print_from true ts) ≡ true
unfolding print_from
ended [] = refl
ended (begin_object ∷ ts) = refl
ended (end_object ∷ ts) = refl
ended (begin_array ∷ ts) = refl
ended (end_array ∷ ts) = refl
ended (key s ∷ ts) = refl
ended (string s ∷ ts) = refl
ended (number s ∷ ts) = refl
ended (boolean b ∷ ts) = refl
ended (null ∷ ts) = refl
ended (bad ∷ ts) = refl

fed-ended : (ts : List Token) → ends_word (print_from true ts ++ feed) ≡ true
unfolding print_from
fed-ended [] = refl
fed-ended (begin_object ∷ ts) = refl
fed-ended (end_object ∷ ts) = refl
fed-ended (begin_array ∷ ts) = refl
fed-ended (end_array ∷ ts) = refl
fed-ended (key s ∷ ts) = refl
fed-ended (string s ∷ ts) = refl
fed-ended (number s ∷ ts) = refl
fed-ended (boolean b ∷ ts) = refl
fed-ended (null ∷ ts) = refl
fed-ended (bad ∷ ts) = refl

-- a token is taken off the front, whatever text follows
one-off : (c : Bool) (t : Token) (r : List ℕ) → IsPrintable t → (ends t ≡ true → ends_word r ≡ true) → lex between (separator c t ++ (token_text t ++ r)) ≡ cond (c && begins t) (comma ∷ []) [] ++ (lexemes t ++ lex between r)
one-off c t r h ends_r = lex-separator (c && begins t) (token_text t ++ r) ∙ ap (λ l. cond (c && begins t) (comma ∷ []) [] ++ l) (lex-text t r h ends_r)

parted : (a b r f : List ℕ) → (a ++ (b ++ r)) ++ f ≡ a ++ (b ++ (r ++ f))
parted a b r f = append_assoc a (b ++ r) f ∙ ap (λ l. a ++ l) (append_assoc b r f)

lex-fed : (c : Bool) (ts : List Token) → ArePrintable ts → lex between (print_from c ts ++ feed) ≡ lex between (print_from c ts)
unfolding lex print_from ArePrintable
lex-fed c [] h = refl
lex-fed c (t ∷ ts) h =
    let rest = print_from (ends t) ts in
    ap (lex between) (parted (separator c t) (token_text t) rest feed)
    ∙ one-off c t (rest ++ feed) h.0 (λ e. ap (λ b. ends_word (print_from b ts ++ feed)) e ∙ fed-ended ts)
    ∙ ap (λ l. cond (c && begins t) (comma ∷ []) [] ++ (lexemes t ++ l)) (lex-fed (ends t) ts h.1)
    ∙ sym (one-off c t rest h.0 (λ e. ap (λ b. ends_word (print_from b ts)) e ∙ ended ts))

-- tokens that were printed are read alike with a line feed behind them
pub tokens-fed : (ts : List Token) → ArePrintable ts → tokens (print ts ++ feed) ≡ tokens (print ts)
tokens-fed ts h = ap (punctuate fresh) (lex-fed false ts h)
