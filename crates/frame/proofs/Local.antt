-- Bytes after a frame have no part in the reply: with others there, any two replies that the promise allows are equal, tables too.
use mathlib.Core.List.{List, [], ◌++◌, ◌∷◌}
use mathlib.Core.Path.{◌∙◌, ◌≡◌}
use Prim.Native.Nat.{ℕ}
use lib.IntN.{ℤ}
use lib.ListN.{take}
use Rattle.layout.specs.Reading.{ok}
use Rattle.layout.specs.Frames.{frame_read, frame_size}
use Rattle.layout.specs.Messages.Headers as Headers
use Rattle.layout.proofs.Frames.{frame_read_local}
use Rattle.frame.specs.Answers.{RequestFrame, ResponseFrame}
use Rattle.frame.proofs.Unique.{request_unique, request_said, response_unique, response_said}

-- a frame of z bytes at the front of s; t follows it in place of the rest
module _ (s : List ℕ) (n z : ℕ) (e : frame_size s ≡ ok n z) (t : List ℕ) (number : ℤ) (tags : List ℕ) where
  pub request_local : (x y : RequestFrame × List ℕ) → request_said x ≡ frame_read Headers.request number (tags ∷ []) s → request_said y ≡ frame_read Headers.request number (tags ∷ []) (take z s ++ t) → x ≡ y
  request_local x y a b = request_unique _ x y a (b ∙ frame_read_local s n z e t Headers.request number (tags ∷ []))

  pub response_local : (x y : ResponseFrame × List ℕ) → response_said x ≡ frame_read Headers.response number (tags ∷ []) s → response_said y ≡ frame_read Headers.response number (tags ∷ []) (take z s ++ t) → x ≡ y
  response_local x y a b = response_unique _ x y a (b ∙ frame_read_local s n z e t Headers.response number (tags ∷ []))
