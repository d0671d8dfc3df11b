-- The grammar of an Alert-Info value, as a relation between bytes and URIs, without any limit of size. RFC 3261:
--   Alert-Info     =  "Alert-Info" HCOLON alert-param *(COMMA alert-param)
--   alert-param    =  LAQUOT absoluteURI RAQUOT *( SEMI generic-param )
--   generic-param  =  token [ EQUAL gen-value ]
--   gen-value      =  token / host / quoted-string
-- An entry is an alert-param. White space stands where HCOLON, COMMA, LAQUOT, RAQUOT, SEMI and EQUAL have it, and behind
-- the last entry. The URI is wider than absoluteURI; a host in square brackets is left out, any other is a token.
-- Assumes nothing.
use Rattle.std.specs.Prelude.{ℕ, suc, Bool, List, [], ◌∷◌, ◌++◌, T}
use Prim.Native.Char.{code}
use Rattle.value_cursor.specs.Bytes.{is_blank, is_uri, is_token, is_text, is_escapable}

-- any number of bytes that pass a test
pub data Any (p : ℕ → Bool) : List ℕ → Type 0 where
  none : Any p []
  more : {b : ℕ} {l : List ℕ} → T (p b) → Any p l → Any p (b ∷ l)

-- one or more
pub data Some (p : ℕ → Bool) : List ℕ → Type 0 where
  some : {b : ℕ} {l : List ℕ} → T (p b) → Any p l → Some p (b ∷ l)

-- white space: spaces and tabs, and CR LF with one of them after it, any number of these, also none
pub data White : List ℕ → Type 0 where
  nothing : White []
  blank : {b : ℕ} {l : List ℕ} → T (is_blank b) → White l → White (b ∷ l)
  fold : {b : ℕ} {l : List ℕ} → T (is_blank b) → White l → White (code "\r" ∷ code "\n" ∷ b ∷ l)

-- white space as it was before lines were folded: spaces and tabs
abbrev pub Blanks : List ℕ → Type 0
Blanks l = Any is_blank l

abbrev pub Token : List ℕ → Type 0
Token l = Some is_token l

abbrev pub Uri : List ℕ → Type 0
Uri l = Some is_uri l

-- what stands between double quotes
pub data Text : List ℕ → Type 0 where
  ends : Text []
  plain : {b : ℕ} {l : List ℕ} → T (is_text b) → Text l → Text (b ∷ l)
  escaped : {b : ℕ} {l : List ℕ} → T (is_escapable b) → Text l → Text (code "\\" ∷ b ∷ l)

-- what a parameter is set to: a token or a quoted string
pub data Setting : List ℕ → Type 0 where
  token : {t : List ℕ} → Token t → Setting t
  quoted : {t : List ℕ} → Text t → Setting (code "\"" ∷ (t ++ (code "\"" ∷ [])))

-- What follows is over any white space W, so that the rule with folds and the one without are two cases of it.

-- a parameter after its semicolon: token, or token = setting
pub data Param (W : List ℕ → Type 0) : List ℕ → Type 0 where
  bare : {x t : List ℕ} → W x → Token t → Param W (x ++ t)
  set : {x t y z v : List ℕ} → W x → Token t → W y → W z → Setting v
      → Param W (x ++ (t ++ (y ++ (code "=" ∷ (z ++ v)))))

-- any number of parameters, each after white space and a semicolon
pub data Params (W : List ℕ → Type 0) : List ℕ → Type 0 where
  done : Params W []
  param : {w p q : List ℕ} → W w → Param W p → Params W q → Params W (w ++ (code ";" ∷ (p ++ q)))

-- an entry and its URI
pub data Entry (W : List ℕ → Type 0) : List ℕ → List ℕ → Type 0 where
  entry : {u p : List ℕ} → Uri u → Params W p → Entry W (code "<" ∷ (u ++ (code ">" ∷ p))) u

-- a value and its URIs in order: an entry, or an entry, a comma and a value; white space round each
pub data Value (W : List ℕ → Type 0) : List ℕ → List (List ℕ) → Type 0 where
  last : {w e x u : List ℕ} → W w → Entry W e u → W x → Value W (w ++ (e ++ x)) (u ∷ [])
  comma : {w e x u v : List ℕ} {us : List (List ℕ)} → W w → Entry W e u → W x → Value W v us
      → Value W (w ++ (e ++ (x ++ (code "," ∷ v)))) (u ∷ us)

-- what stands before the URI of entry k, counted from 0: k entries with a comma after each, and its bracket
pub data Before (W : List ℕ → Type 0) : ℕ → List ℕ → Type 0 where
  bracket : {w : List ℕ} → W w → Before W 0 (w ++ (code "<" ∷ []))
  entries : {w e x u b : List ℕ} {k : ℕ} → W w → Entry W e u → W x → Before W k b
      → Before W (suc k) (w ++ (e ++ (x ++ (code "," ∷ b))))
